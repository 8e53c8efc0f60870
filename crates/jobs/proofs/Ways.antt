-- The ways through the code of each reader. Assumes nothing.
use mathlib.Core.Path.{◌≡◌, refl, sym, ◌∙◌, ap}
use mathlib.Core.List.{List, [], ◌∷◌}
use Prim.Native.Nat.{ℕ, ◌+◌, ◌*◌, ◌-◌, ◌≤◌, ◌<◌}
use native.Mathlib.Omega.{arith}
use lib.Dec.{eqb, ltb}
use lib.ListN.{length, drop, drop_of_length-le, get_or-eq_default}
use borrow.Author.Tests.{lt-ltb, le-ltb, eq-eqb, ne_eqb}
use Rattle.std.specs.Prelude.{Option, Some, None, Result, Ok, Err, IsErr, IsErrAnd, if◌then◌else◌}
use Rattle.rules.specs.Numbers.Place.{at}
use Rattle.rules.specs.Books.Event.{kind_of, id_of, amount_of, event_number}
use Rattle.rules.specs.declared.event.Event.TheVariants.{Acquire, Unlock, Work, Finish}
use Rattle.jobs.specs.Reader.{Sign, mark_of, sign, behind, begin, in_units, in_bracket, in_lock, behind_sign, step, ends, ends_in, run, read_job}
use Rattle.jobs.specs.Reader.Mark.{letter, left, right, gap, other}
use Rattle.jobs.specs.Reader.Sign.{digit, mark}
use Rattle.jobs.specs.Reader.Mode.{fresh, units, bracket, lock, after}
use Rattle.jobs.specs.Reader.Move.{stop, move}
use Rattle.jobs.specs.Sheet.{Sheet, sheet, with_record, lay_all, done, tell}
use Rattle.jobs.specs.declared.text.Number.{Number}
use Rattle.jobs.specs.declared.read.At.{At}
use Rattle.jobs.specs.Said.{sign_at, digit_of, then_on, Went, Did, Came, then_units, Counted, then_lock, Numbered, then_in, Entered, Left, Over, whole}
use Rattle.rules.proofs.Numbers.Choice.{if_true, if_false}
use Rattle.jobs.proofs.Sheets.{laid, tell_one}
use Rattle.jobs.proofs.Steps.{Spells, spells, sign_low, sign_high, sign_digit, goes, goes_on_lem, stops_at, halts, inside, units_ends, lock_ends, digit_here, mark_here, digit_inside, turns_here}

-- what `?` hands on
pub err_same : {A : Type 0} (t : Result A ℕ) (b : ℕ) → IsErr t → IsErrAnd t (λ x. x ≡ b) → t ≡ Err b
err_same (Ok x) b h k = absurd k
err_same (Err x) b h k = ap Err k

-- ---- the byte and the digit at a place

pub byte_past : (text : List ℕ) (a : ℕ) → length text ≤ a → 0 ≡ at text a
byte_past text a l = sym (get_or-eq_default text 0 l)

pub digit_within : (text : List ℕ) (a d : ℕ) (o : Option ℕ) → o ≡ digit_of (sign_at text a) → o ≡ Some d → a + 1 ≤ length text
digit_within text a d o e q = let h : a < length text = digit_inside text a d (sym q ∙ e) in omega arith

pub digit_less : (text : List ℕ) (a d : ℕ) (o : Option ℕ) → o ≡ digit_of (sign_at text a) → o ≡ Some d → length text - (a + 1) < length text - a
digit_less text a d o e q = let h : a < length text = digit_inside text a d (sym q ∙ e) in omega arith

byte_within : (text : List ℕ) (a c : ℕ) → c ≡ at text a → 1 ≤ c → a + 1 ≤ length text
byte_within text a c e f = let h : a < length text = inside text a (λ z. omega arith) in omega arith

pub within_gap : (text : List ℕ) (a c : ℕ) → c ≡ at text a → c ≡ 32 → a + 1 ≤ length text
within_gap text a c e f = byte_within text a c e (omega arith)

pub digit_low : (text : List ℕ) (a b : ℕ) → b ≡ at text a → b < 48 → None ≡ digit_of (sign_at text a)
unfolding sign_at digit_of
digit_low text a b e l = sym (ap (λ x. digit_of (sign x)) (sym e) ∙ ap digit_of (sign_low b l))

pub digit_high : (text : List ℕ) (a b : ℕ) → b ≡ at text a → 57 < b → None ≡ digit_of (sign_at text a)
unfolding sign_at digit_of
digit_high text a b e l = sym (ap (λ x. digit_of (sign x)) (sym e) ∙ ap digit_of (sign_high b l))

pub digit_is : (text : List ℕ) (a b : ℕ) → b ≡ at text a → 48 ≤ b → b ≤ 57 → Some (b - 48) ≡ digit_of (sign_at text a)
unfolding sign_at digit_of
digit_is text a b e l h = sym (ap (λ x. digit_of (sign x)) (sym e) ∙ ap digit_of (sign_digit b l h))

-- ---- units

-- the digits from place a to place i make v
unfoldable pub Counts : List ℕ → ℕ → ℕ → ℕ → Type 0
Counts text a i v = (ls : List ℕ) → run (drop a text) (units 0) ls ≡ run (drop i text) (units v) ls

step_on : (text : List ℕ) (a i v d w : ℕ) → Counts text a i v → Some d ≡ digit_of (sign_at text i) → v * 10 + d ≡ w → (w ≡ 0 → ⊥) → w ≤ 65535 → Counts text a (i + 1) w
unfolding Counts step in_units
step_on text a i v d w h e s n f ls = h ls ∙ goes_on_lem text i (units v) (units w) ls ls (digit_inside text i d e)
    (ap (λ x. in_units x v ls) (digit_here text i d e) ∙ rw s (if_false (eqb w 0) _ _ (ne_eqb w 0 n) ∙ if_false (ltb 65535 w) _ _ (le-ltb 65535 w f)))

start : (text : List ℕ) (a : ℕ) → Counts text a a 0
unfolding Counts
start text a ls = refl

-- the first digit, and one more
pub count_first : (text : List ℕ) (a d : ℕ) (o : Option ℕ) → o ≡ digit_of (sign_at text a) → o ≡ Some d → d < 10 → (d ≡ 0 → ⊥) → Counts text a (a + 1) d
count_first text a d o e q l n = step_on text a a 0 d d (start text a) (sym q ∙ e) (omega arith) n (omega arith)

pub count_next : (text : List ℕ) (a i v d : ℕ) (o : Option ℕ) → Counts text a i v → o ≡ digit_of (sign_at text i) → o ≡ Some d → 1 ≤ v → v * 10 + d ≤ 65535 → Counts text a (i + 1) (v * 10 + d)
count_next text a i v d o h e q n f = step_on text a i v d (v * 10 + d) h (sym q ∙ e) refl (λ z. omega arith) f

-- at a digit the text does not end, so that the end need not be asked
digit_halts : (text : List ℕ) (a i v d : ℕ) → Counts text a i v → Some d ≡ digit_of (sign_at text i) → ((ls : List ℕ) → in_units (digit d) v ls ≡ stop) → Counted text a (Err i)
unfolding Counts Counted then_units step
digit_halts text a i v d h e f ls = h ls ∙ stops_at text i (units v) ls (digit_inside text i d e) (ap (λ s. in_units s v ls) (digit_here text i d e) ∙ f ls)

-- no digit, a zero, or one too many
pub count_none : (text : List ℕ) (a : ℕ) (o : Option ℕ) → o ≡ digit_of (sign_at text a) → o ≡ None → Counted text a (Err a)
unfolding Counted then_units step ends_in in_units
count_none text a o e q ls = let (m, s) = mark_here text a (sym q ∙ e) in halts text a (units 0) ls refl (ap (λ u. in_units u 0 ls) s)

pub count_zero : (text : List ℕ) (a d : ℕ) (o : Option ℕ) → o ≡ digit_of (sign_at text a) → o ≡ Some d → d ≡ 0 → Counted text a (Err a)
unfolding in_units
count_zero text a d o e q z = digit_halts text a a 0 d (start text a) (sym q ∙ e) (λ ls. if_true (eqb (0 * 10 + d) 0) _ _ (eq-eqb (0 * 10 + d) 0 (omega arith)))

pub count_big : (text : List ℕ) (a i v d : ℕ) (o : Option ℕ) → Counts text a i v → o ≡ digit_of (sign_at text i) → o ≡ Some d → 65535 < v * 10 + d → Counted text a (Err i)
unfolding in_units
count_big text a i v d o h e q z = digit_halts text a i v d h (sym q ∙ e)
    (λ ls. if_false (eqb (v * 10 + d) 0) _ _ (ne_eqb (v * 10 + d) 0 (λ q. omega arith)) ∙ if_true (ltb 65535 (v * 10 + d)) _ _ (lt-ltb 65535 (v * 10 + d) z))

pub count_done : (text : List ℕ) (a i v : ℕ) (o : Option ℕ) → Counts text a i v → o ≡ digit_of (sign_at text i) → o ≡ None → 1 ≤ v → Counted text a (Ok (record { place = i; value = v }))
unfolding Counts Counted then_units
count_done text a i v o h e q n ls = h ls ∙ units_ends (drop i text) v ls (λ z. omega arith) (turns_here text i (sym q ∙ e))

-- ---- a lock's number

unfoldable pub Numbers : List ℕ → ℕ → ℕ → ℕ → Type 0
Numbers text a i v = (ls : List ℕ) → run (drop a text) bracket ls ≡ run (drop i text) (lock v) ls

pub lock_none : (text : List ℕ) (a : ℕ) (o : Option ℕ) → o ≡ digit_of (sign_at text a) → o ≡ None → Numbered text a (Err a)
unfolding Numbered then_lock step ends_in in_bracket
lock_none text a o e q ls = let (m, s) = mark_here text a (sym q ∙ e) in halts text a bracket ls refl (ap (λ u. in_bracket u ls) s)

lock_first : (text : List ℕ) (a d : ℕ) → Some d ≡ digit_of (sign_at text a) → Numbers text a (a + 1) d
unfolding Numbers step in_bracket
lock_first text a d e ls = goes_on_lem text a bracket (lock d) ls ls (digit_inside text a d e) (ap (λ s. in_bracket s ls) (digit_here text a d e))

lock_next : (text : List ℕ) (a i v d : ℕ) → Numbers text a i v → Some d ≡ digit_of (sign_at text i) → (v ≡ 0 → ⊥) → v * 10 + d ≤ 31 → Numbers text a (i + 1) (v * 10 + d)
unfolding Numbers step in_lock
lock_next text a i v d h e n f ls = h ls ∙ goes_on_lem text i (lock v) (lock (v * 10 + d)) ls ls (digit_inside text i d e)
    (ap (λ s. in_lock s v ls) (digit_here text i d e) ∙ if_false (eqb v 0) _ _ (ne_eqb v 0 n) ∙ if_false (ltb 31 (v * 10 + d)) _ _ (le-ltb 31 (v * 10 + d) f))

lock_halts : (text : List ℕ) (a i v d : ℕ) → Numbers text a i v → Some d ≡ digit_of (sign_at text i) → ((ls : List ℕ) → in_lock (digit d) v ls ≡ stop) → Numbered text a (Err i)
unfolding Numbers Numbered then_lock step
lock_halts text a i v d h e f ls = h ls ∙ stops_at text i (lock v) ls (digit_inside text i d e) (ap (λ s. in_lock s v ls) (digit_here text i d e) ∙ f ls)

lock_big : (text : List ℕ) (a i v d : ℕ) → Numbers text a i v → Some d ≡ digit_of (sign_at text i) → (v ≡ 0 → ⊥) → 31 < v * 10 + d → Numbered text a (Err i)
unfolding in_lock
lock_big text a i v d h e n z = lock_halts text a i v d h e (λ ls. if_false (eqb v 0) _ _ (ne_eqb v 0 n) ∙ if_true (ltb 31 (v * 10 + d)) _ _ (lt-ltb 31 (v * 10 + d) z))

lock_done : (text : List ℕ) (a i v : ℕ) → Numbers text a i v → None ≡ digit_of (sign_at text i) → Numbered text a (Ok (record { place = i; value = v }))
unfolding Numbers Numbered then_lock
lock_done text a i v h e ls = h ls ∙ lock_ends (drop i text) v ls (turns_here text i e)

-- a first digit, and a second
module _ (text : List ℕ) (a d : ℕ) (o : Option ℕ) (h : o ≡ digit_of (sign_at text a)) (g : o ≡ Some d) where
  pub lock_one : (n : Option ℕ) → n ≡ digit_of (sign_at text (a + 1)) → n ≡ None → Numbered text a (Ok (record { place = a + 1; value = d }))
  lock_one n e q = lock_done text a (a + 1) d (lock_first text a d (sym g ∙ h)) (sym q ∙ e)

  module _ (e : ℕ) (n : Option ℕ) (k : n ≡ digit_of (sign_at text (a + 1))) (m : n ≡ Some e) where
    pub lock_zero : d ≡ 0 → Numbered text a (Err (a + 1))
    unfolding in_lock
    lock_zero z = lock_halts text a (a + 1) d e (lock_first text a d (sym g ∙ h)) (sym m ∙ k) (λ ls. if_true (eqb d 0) _ _ (eq-eqb d 0 z))

    pub lock_above : (d ≡ 0 → ⊥) → 31 < d * 10 + e → Numbered text a (Err (a + 1))
    lock_above z l = lock_big text a (a + 1) d e (lock_first text a d (sym g ∙ h)) (sym m ∙ k) z l

    -- a third digit is always too many
    module _ (x : Option ℕ) (z : d ≡ 0 → ⊥) (l : d * 10 + e ≤ 31) (y : x ≡ digit_of (sign_at text (a + 1 + 1))) where
      two : Numbers text a (a + 1 + 1) (d * 10 + e)
      two = lock_next text a (a + 1) d e (lock_first text a d (sym g ∙ h)) (sym m ∙ k) z l

      pub lock_two : x ≡ None → Numbered text a (Ok (record { place = a + 1 + 1; value = d * 10 + e }))
      lock_two q = lock_done text a (a + 1 + 1) (d * 10 + e) two (sym q ∙ y)

      pub lock_third : (f : ℕ) → x ≡ Some f → Numbered text a (Err (a + 1 + 1))
      lock_third f q = lock_big text a (a + 1 + 1) (d * 10 + e) f two (sym q ∙ y) (λ v. z (omega arith)) (past d z)
        where
          past : (w : ℕ) → (w ≡ 0 → ⊥) → 31 < (w * 10 + e) * 10 + f
          past w o = omega arith

-- behind an item a space leads to the next one
behind_gap : (b : ℕ) (ls : List ℕ) → b ≡ 32 → behind_sign (sign b) ls ≡ move fresh ls []
unfolding behind_sign behind sign mark_of
behind_gap b ls e = ap (λ x. behind_sign (sign x) ls) e

next_item : (text : List ℕ) (b c : ℕ) (ls : List ℕ) → c ≡ at text b → c ≡ 32 → run (drop b text) after ls ≡ run (drop (b + 1) text) fresh ls
unfolding step sign_at
next_item text b c ls e f =
    let at_b : at text b ≡ 32 = sym e ∙ f in
    goes_on_lem text b after fresh ls ls (inside text b (λ y. omega arith)) (behind_gap (at text b) ls at_b)

-- ---- work, and a section's lock and its end

module _ (text : List ℕ) (a : ℕ) (r : Result Number ℕ) where
  pub work_did : (n w : ℕ) (v : Number) (s s' : List ℕ) → Counted text a r → r ≡ Ok v → s' ≡ with_record s n w → w ≡ event_number (Work v.value)
      → Went text a (units 0) (sheet s n) (Ok (record { place = v.place; count = n + 1 })) s'
  unfolding Counted then_units Went then_on
  work_did n w v s s' h e q g ls = ap (tell (sheet s n)) (h ls ∙ ap (λ o. then_units o text ls) e)
      ∙ tell_one (sheet s n) (sheet s' (n + 1)) (Work v.value) (run (drop v.place text) after ls) (laid s s' n w (Work v.value) q g)

  pub work_stopped : (b : ℕ) (p : Sheet) (s : List ℕ) (t : Result At ℕ) → Counted text a r → r ≡ Err b → t ≡ Err b → Went text a (units 0) p t s
  unfolding Counted then_units Went then_on tell
  work_stopped b p s t h e q ls = ap (tell p) (h ls ∙ ap (λ o. then_units o text ls) e) ∙ sym (ap (λ x. then_on x text s ls) q)

  pub enter_did : (n w : ℕ) (v : Number) (s s' : List ℕ) → Numbered text a r → r ≡ Ok v → s' ≡ with_record s n w → w ≡ event_number (Acquire v.value)
      → Entered text a (sheet s n) (Ok v) (sheet s' (n + 1))
  unfolding Numbered then_lock Entered then_in
  enter_did n w v s s' h e q g ls = ap (tell (sheet s n)) (h ls ∙ ap (λ o. then_lock o text ls) e)
      ∙ tell_one (sheet s n) (sheet s' (n + 1)) (Acquire v.value) (run (drop v.place text) after (v.value ∷ ls)) (laid s s' n w (Acquire v.value) q g)

  pub enter_stopped : (b : ℕ) (p q : Sheet) (t : Result Number ℕ) → Numbered text a r → r ≡ Err b → t ≡ Err b → Entered text a p t q
  unfolding Numbered then_lock Entered then_in tell
  enter_stopped b p q t h e y ls = ap (tell p) (h ls ∙ ap (λ o. then_lock o text ls) e) ∙ sym (ap (λ x. then_in x text q ls) y)

pub left_did : (text : List ℕ) (a c l n w : ℕ) (s s' : List ℕ) → c ≡ at text a → c ≡ 93 → s' ≡ with_record s n w → w ≡ event_number (Unlock l)
    → Left text a l (sheet s n) (Ok (record { place = a + 1; count = n + 1 })) s'
unfolding Left then_on step sign_at behind_sign sign mark_of behind
left_did text a c l n w s s' e f q z g ls =
    let at_a : at text a ≡ 93 = sym e ∙ f in
    ap (tell (sheet s n)) (goes text a after after (l ∷ ls) ls (Unlock l ∷ []) (inside text a (λ z. omega arith)) (ap (λ b. behind_sign (sign b) (l ∷ ls)) at_a))
    ∙ tell_one (sheet s n) (sheet s' (n + 1)) (Unlock l) (run (drop (a + 1) text) after ls) (laid s s' n w (Unlock l) q z)

behind_stops : (s : Sign) (b : ℕ) (ls : List ℕ) → Spells s b → (b ≡ 93 → ⊥) → (b ≡ 32 → ⊥) → behind_sign s ls ≡ stop
unfolding behind_sign behind Spells
behind_stops (digit d) b ls p f g = refl
behind_stops (mark letter) b ls p f g = refl
behind_stops (mark left) b ls p f g = refl
behind_stops (mark right) b ls p f g = absurd (f p)
behind_stops (mark gap) b ls p f g = absurd (g p)
behind_stops (mark other) b ls p f g = refl

pub left_stopped : (text : List ℕ) (a c l : ℕ) (p : Sheet) (s : List ℕ) → c ≡ at text a → (c ≡ 93 → ⊥) → Left text a l p (Err a) s
unfolding Left then_on step sign_at ends_in ends tell
left_stopped text a c l p s e f g ls = ap (tell p) (halts text a after (l ∷ ls) refl (behind_stops (sign (at text a)) (at text a) (l ∷ ls) (spells (at text a)) (λ z. f (e ∙ z)) g))

-- ---- an item

pub item_work : (text : List ℕ) (k a c : ℕ) (r : Result At ℕ) (p : Sheet) (q : List ℕ) → c ≡ at text a → c ≡ 119 → Went text (a + 1) (units 0) p r q → Did text k a p r q
unfolding Went Did step begin sign_at sign mark_of
item_work text k a c r p q e f h ls d =
    let at_a : at text a ≡ 119 = sym e ∙ f in
    ap (tell p) (goes_on_lem text a fresh (units 0) ls ls (inside text a (λ z. omega arith)) (ap (λ x. begin (sign x) ls) at_a)) ∙ h ls

begin_stops : (s : Sign) (b : ℕ) (ls : List ℕ) → Spells s b → (b ≡ 119 → ⊥) → (b ≡ 91 → ⊥) → begin s ls ≡ stop
unfolding begin Spells
begin_stops (digit d) b ls p f g = refl
begin_stops (mark letter) b ls p f g = absurd (f p)
begin_stops (mark left) b ls p f g = absurd (g p)
begin_stops (mark right) b ls p f g = refl
begin_stops (mark gap) b ls p f g = refl
begin_stops (mark other) b ls p f g = refl

pub item_other : (text : List ℕ) (k a c : ℕ) (p : Sheet) (q : List ℕ) → c ≡ at text a → (c ≡ 119 → ⊥) → (c ≡ 91 → ⊥) → Did text k a p (Err a) q
unfolding Did then_on step sign_at ends_in tell
item_other text k a c p q e f g ls d =
    ap (tell p) (halts text a fresh ls refl (begin_stops (sign (at text a)) (at text a) ls (spells (at text a)) (λ z. f (e ∙ z)) (λ z. g (e ∙ z))))

begin_left : (b : ℕ) (ls : List ℕ) → b ≡ 91 → begin (sign b) ls ≡ (if ltb (length ls) 8 then move bracket ls [] else stop)
unfolding begin sign mark_of
begin_left b ls e = ap (λ x. begin (sign x) ls) e

pub item_deep : (text : List ℕ) (k a c : ℕ) (p : Sheet) (q : List ℕ) → c ≡ at text a → c ≡ 91 → k ≤ 0 → Did text k a p (Err a) q
unfolding Did then_on step sign_at ends_in tell
item_deep text k a c p q e f z ls d = ap (tell p) (halts text a fresh ls refl
    (begin_left (at text a) ls (sym e ∙ f) ∙ if_false (ltb (length ls) 8) _ _ (le-ltb (length ls) 8 (omega arith))))

-- a section: its lock is read, then its body, where a space leads to one
module _ (text : List ℕ) (k a c : ℕ) (r : Result Number ℕ) (p q : Sheet) (e : c ≡ at text a) (f : c ≡ 91) (z : 0 < k) (h : Entered text (a + 1) p r q) where
  goes_in : (t : Result Number ℕ) → r ≡ t → (ls : List ℕ) → length ls + k ≡ 8 → tell p (run (drop a text) fresh ls) ≡ then_in t text q ls
  unfolding step sign_at Entered
  goes_in t o ls d =
      let at_a : at text a ≡ 91 = sym e ∙ f in
      ap (tell p) (goes_on_lem text a fresh bracket ls ls (inside text a (λ y. omega arith))
      (begin_left (at text a) ls at_a ∙ if_true (ltb (length ls) 8) _ _ (lt-ltb (length ls) 8 (omega arith))))
      ∙ h ls ∙ ap (λ x. then_in x text q ls) o

  pub item_unlocked : (b : ℕ) (s : List ℕ) (y : Result At ℕ) → r ≡ Err b → y ≡ Err b → Did text k a p y s
  unfolding Did then_on then_in
  item_unlocked b s y o j ls d = goes_in (Err b) o ls d ∙ sym (ap (λ x. then_on x text s ls) j)

  module _ (l : Number) (o : r ≡ Ok l) (more : ℕ) (g : more ≡ at text l.place) where
    pub item_empty : (t : Result At ℕ) (s : List ℕ) → (more ≡ 32 → ⊥) → Left text l.place l.value q t s → Did text k a p t s
    unfolding Did then_in Left
    item_empty t s m j ls d = goes_in (Ok l) o ls d ∙ j (λ y. m (g ∙ y)) ls

    module _ (t : Result At ℕ) (s : List ℕ) (m : more ≡ 32) (i : Did text (k - 1) (l.place + 1) q t s) where
      goes_through : (u : Result At ℕ) → t ≡ u → (ls : List ℕ) → length ls + k ≡ 8 → tell p (run (drop a text) fresh ls) ≡ then_on u text s (l.value ∷ ls)
      unfolding Did then_in
      goes_through u y ls d =
          goes_in (Ok l) o ls d ∙ ap (tell q) (next_item text l.place more (l.value ∷ ls) g m) ∙ i (l.value ∷ ls) (omega arith) ∙ ap (λ x. then_on x text s (l.value ∷ ls)) y

      pub item_stopped : (b : ℕ) (s' : List ℕ) (x : Result At ℕ) → t ≡ Err b → x ≡ Err b → Did text k a p x s'
      unfolding Did then_on
      item_stopped b s' x y j ls d = goes_through (Err b) y ls d ∙ sym (ap (λ x. then_on x text s' ls) j)

      pub item_did : (w : At) (u : Result At ℕ) (s' : List ℕ) → t ≡ Ok w → Over text t → Left text w.place l.value (sheet s w.count) u s' → Did text k a p u s'
      unfolding Did then_on Over Left
      item_did w u s' y v j ls d = goes_through (Ok w) y ls d ∙ j (v w y) ls

-- ---- a body

pub body_start : (text : List ℕ) (k a : ℕ) (p : Sheet) → Came text k a p a p
unfolding Came
body_start text k a p ls d = refl

module _ (text : List ℕ) (k a i : ℕ) (r : Result At ℕ) (p q : Sheet) (s : List ℕ) (h : Came text k a p i q) (g : Did text k i q r s) where
  one_more : (t : Result At ℕ) → r ≡ t → (ls : List ℕ) → length ls + k ≡ 8 → tell p (run (drop a text) fresh ls) ≡ then_on t text s ls
  unfolding Came Did
  one_more t o ls d = h ls d ∙ g ls d ∙ ap (λ x. then_on x text s ls) o

  pub body_next : (w : At) (c : ℕ) → r ≡ Ok w → c ≡ at text w.place → c ≡ 32 → Came text k a p (w.place + 1) (sheet s w.count)
  unfolding Came then_on
  body_next w c o e f ls d = one_more (Ok w) o ls d ∙ ap (tell (sheet s w.count)) (next_item text w.place c ls e f)

  pub body_done : (w : At) → r ≡ Ok w → Did text k a p (Ok w) s
  unfolding Did
  body_done w o ls d = one_more (Ok w) o ls d

  pub body_stopped : (b : ℕ) (s' : List ℕ) (y : Result At ℕ) → r ≡ Err b → y ≡ Err b → Did text k a p y s'
  unfolding Did then_on
  body_stopped b s' y o j ls d = one_more (Err b) o ls d ∙ sym (ap (λ x. then_on x text s' ls) j)

pub body_over : (text : List ℕ) (w : At) (c : ℕ) → c ≡ at text w.place → (c ≡ 32 → ⊥) → Over text (Ok w)
unfolding Over
body_over text w c e f s o g = let k : w ≡ s = cc in f (e ∙ ap (λ x. at text x.place) k ∙ g)

pub body_halted : (text : List ℕ) (b : ℕ) (y : Result At ℕ) → y ≡ Err b → Over text y
unfolding Over
body_halted text b y j s o g = cc

-- ---- a whole text

job_starts : (text : List ℕ) → (length text ≡ 0 → ⊥) → read_job text ≡ run (drop 0 text) fresh []
unfolding read_job
job_starts [] n = absurd (n refl)
job_starts (b ∷ t) n = refl

pub scan_empty : (text s s' : List ℕ) → length text ≡ 0 → s' ≡ with_record s 0 5 → tell (sheet s 0) (read_job text) ≡ whole (Ok 1) text s'
unfolding read_job tell lay_all whole kind_of id_of amount_of
scan_empty [] s s' z h = ap done (sym (laid s s' 0 5 Finish h refl))
scan_empty (b ∷ t) s s' z h = absurd (omega arith)

outside_stops : (s : Sign) (b : ℕ) → Spells s b → (b ≡ 32 → ⊥) → behind_sign s [] ≡ stop
unfolding behind_sign behind Spells
outside_stops (digit d) b p g = refl
outside_stops (mark letter) b p g = refl
outside_stops (mark left) b p g = refl
outside_stops (mark right) b p g = refl
outside_stops (mark gap) b p g = absurd (g p)
outside_stops (mark other) b p g = refl

module _ (text : List ℕ) (r : Result At ℕ) (p : Sheet) (s : List ℕ) (n : length text ≡ 0 → ⊥) (h : Did text 8 0 p r s) where
  to_the_end : (t : Result At ℕ) → r ≡ t → tell p (read_job text) ≡ then_on t text s []
  unfolding Did
  to_the_end t o = ap (tell p) (job_starts text n) ∙ h [] refl ∙ ap (λ x. then_on x text s []) o

  pub scan_stopped : (b : ℕ) (s' : List ℕ) (y : Result ℕ ℕ) → r ≡ Err b → y ≡ Err b → tell p (read_job text) ≡ whole y text s'
  unfolding then_on whole
  scan_stopped b s' y o j = to_the_end (Err b) o ∙ sym (ap (λ x. whole x text s') j)

  pub scan_more : (w : At) (s' : List ℕ) → r ≡ Ok w → Over text r → w.place < length text → tell p (read_job text) ≡ whole (Err w.place) text s'
  unfolding then_on whole Over step sign_at tell
  scan_more w s' o v l =
      to_the_end (Ok w) o ∙ ap (tell (sheet s w.count)) (stops_at text w.place after [] l (outside_stops (sign (at text w.place)) (at text w.place) (spells (at text w.place)) (v w o)))

  pub scan_done : (w : At) (s' : List ℕ) → r ≡ Ok w → length text ≤ w.place → s' ≡ with_record s w.count 5 → tell p (read_job text) ≡ whole (Ok (w.count + 1)) text s'
  unfolding then_on whole tell run ends_in ends lay_all kind_of id_of amount_of
  scan_done w s' o l e =
      to_the_end (Ok w) o ∙ ap (λ u. tell (sheet s w.count) (run u after [])) (drop_of_length-le text l) ∙ ap done (sym (laid s s' w.count 5 Finish e refl))

pub ruleset counting = (count_zero, count_big, count_none, count_done)

pub ruleset numbering = (lock_none, lock_one, lock_zero, lock_above, lock_two, lock_third)

pub ruleset items = (item_work, item_other, item_deep, item_unlocked, item_empty, item_stopped, item_did)

pub ruleset scans = (scan_empty, scan_stopped, scan_more, scan_done)
