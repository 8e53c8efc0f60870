-- One law for each small rule that the proofs rest on: a wrong rule is refused here, at the fact that it breaks. Assumes nothing.
use Rattle.std.specs.Prelude.{if◌then◌else◌}
use mathlib.Core.Path.{◌≡◌, refl, sym, ◌∙◌, ap}
use mathlib.Core.Logic.{◌≢◌, ◌⊎◌, inl, inr, ⊎_elim}
use mathlib.Core.Bool.{Bool, true, false, ◌&&◌}
use mathlib.Core.List.{List}
use Prim.Native.Nat.{ℕ, ◌+◌, ◌≤◌, ◌<◌, min}
use native.Mathlib.Omega.{arith}
use lib.Dec.{eqb, leb, ltb}
use borrow.Author.Tests.{eq-eqb, ne_eqb, lt-ltb, le-ltb, le-leb, ltb-true, ltb-false, leb-true}
use Rattle.rules.specs.Numbers.Capacity.{max_delay, nobody}
use Rattle.rules.specs.Numbers.Place.{at}
use Rattle.rules.specs.Numbers.Row.{priority}
use Rattle.rules.specs.Books.Plan.{declares}
use Rattle.rules.specs.Schedulers.Figures.{Figures, holds, priority_of, rank_of}
use Rattle.rules.specs.Schedulers.Elect.{earlier}
use Rattle.rules.specs.Schedulers.FiguresAfter.{left_of, charged, delayed}
use Rattle.rules.specs.Schedulers.Protocol.{second_word}
use Rattle.rules.specs.Schedulers.Lazy.{Words, calls_for, cut_to, entering}
use Rattle.rules.specs.Soundness.Sound.{kept_of, SoundSecond}
use Rattle.rules.specs.Demands.Bound.{lower_at, lower_user, may_block, limit_if}
use Rattle.rules.specs.declared.plan.Plan.{Plan}
use Rattle.rules.specs.declared.protocol.Protocol.{Protocol}
use Rattle.rules.specs.declared.protocol.Protocol.TheVariants.{Second, First}
use Rattle.rules.proofs.Numbers.Choice.{if_true, if_false, by_test, untrue, and_true, true_and}
use Rattle.rules.proofs.Numbers.Place.{any_some, some_any}
use Rattle.rules.proofs.Numbers.Row.{priority_none, priority_base}

-- ---- RULES 11.2: ties go to the earlier release

module _ (released : ℕ → ℕ) where
  pub earlier_nobody : (b : ℕ) → earlier released nobody b ≡ b
  unfolding earlier
  earlier_nobody b = refl

  pub earlier_later : (a b : ℕ) → a ≢ nobody → released b < released a → earlier released a b ≡ b
  unfolding earlier
  earlier_later a b n l = if_false (eqb a nobody) b _ (ne_eqb a nobody n) ∙ either_way (ltb (released b) (released a)) (lt-ltb (released b) (released a) l)
    where
      either_way : (t : Bool) → t ≡ true → (if t then b else a) ≡ b
      either_way t e = if_true t b a e

  pub earlier_sooner : (a b : ℕ) → a ≢ nobody → released a ≤ released b → earlier released a b ≡ a
  unfolding earlier
  earlier_sooner a b n l = if_false (eqb a nobody) b _ (ne_eqb a nobody n) ∙ either_way (ltb (released b) (released a)) (le-ltb (released b) (released a) l)
    where
      either_way : (t : Bool) → t ≡ false → (if t then b else a) ≡ a
      either_way t e = if_false t b a e

-- ---- RULES 7.3: a released task's priority

pub rank_out : (p : Plan) (f : Figures) (x : ℕ) → 0 < at f.released x → rank_of p f x ≡ priority_of p f x
unfolding rank_of
rank_out p f x o = if_true (ltb 0 (at f.released x)) (priority_of p f x) 0 (lt-ltb 0 (at f.released x) o)

pub rank_in : (p : Plan) (f : Figures) (x : ℕ) → at f.released x ≡ 0 → rank_of p f x ≡ 0
unfolding rank_of
rank_in p f x z = if_false (ltb 0 (at f.released x)) (priority_of p f x) 0 (le-ltb 0 (at f.released x) (omega arith))

pub base_priority : (p : Plan) (f : Figures) (x : ℕ) → at p.base x ≤ priority_of p f x
unfolding priority_of
base_priority p f x = priority_base (at p.ceiling) (at p.base x) (at f.takes x) (at f.depth x)

pub plain_priority : (p : Plan) (f : Figures) (x : ℕ) → at f.depth x ≡ 0 → priority_of p f x ≡ at p.base x
unfolding priority_of
plain_priority p f x z = ap (priority (at p.ceiling) (at p.base x) (at f.takes x)) z
    ∙ priority_none (at p.ceiling) (at p.base x) (at f.takes x)

-- ---- RULES 7.6: what is kept for a task

pub kept_other : (p : Plan) (f : Figures) (r x : ℕ) → x ≢ r → kept_of p f r x ≡ rank_of p f x
unfolding kept_of
kept_other p f r x n = if_false (eqb x r) 0 (rank_of p f x) (ne_eqb x r n)

pub kept_own : (p : Plan) (f : Figures) (r : ℕ) → kept_of p f r r ≡ 0
unfolding kept_of
kept_own p f r = if_true (eqb r r) 0 (rank_of p f r) (eq-eqb r r refl)

-- ---- RULES 10.1: where an unlock calls

pub call_below : (back next : ℕ) → calls_for back next ≡ true → back < next
unfolding calls_for
call_below back next e = omega (arith, ltb-true)

pub no_call : (back next : ℕ) → calls_for back next ≡ false → next ≤ back
unfolding calls_for
no_call back next e = omega (arith, ltb-false)

pub below_call : (back next : ℕ) → back < next → calls_for back next ≡ true
unfolding calls_for
below_call back next h = by_test (calls_for back next) (λ e. e) (λ e. absurd (omega (arith, no_call back next e)))

-- ---- RULES 8.10: what an entry to the kernel leaves in the second word is sound, and it stays so where it is not set

pub entry_sound : (pr : Protocol) (user best best' : ℕ) → best ≡ best' → SoundSecond pr (second_word pr user best) user best'
unfolding SoundSecond second_word
entry_sound Second user best best' e = e
entry_sound First user best best' e = omega arith

pub stays_sound : (pr : Protocol) (second user user' best best' : ℕ) → (second ≤ user → second ≤ user') → best ≡ best'
    → SoundSecond pr second user best → SoundSecond pr second user' best'
unfolding SoundSecond
stays_sound Second second user user' best best' h e s = s ∙ e
stays_sound First second user user' best best' h e s = h s

-- ---- RULES 9.11: a word that is not above the maximum is not cut, so that an entry finds the words as they are

pub uncut : (maximum user : ℕ) → user ≤ maximum → cut_to maximum user ≡ user
unfolding cut_to
uncut maximum user h = if_false (ltb maximum user) maximum user (le-ltb maximum user h)

pub entering_same : (maximum : List ℕ) (w : Words) → w.user ≤ at maximum w.running → entering maximum w ≡ w
unfolding entering
entering_same maximum w h = rw (uncut (at maximum w.running) w.user h)

-- ---- RULES 9.6: what an unlock leaves of a section's units and of its lock's owner

pub left_same : (stays : Bool) (v : ℕ) → stays ≡ true → left_of stays v ≡ v
unfolding left_of
left_same stays v e = if_true stays v 0 e

pub left_none : (stays : Bool) (v : ℕ) → stays ≡ false → left_of stays v ≡ 0
unfolding left_of
left_none stays v e = if_false stays v 0 e

pub left_most : (stays : Bool) (v : ℕ) → left_of stays v ≤ v
left_most stays v = by_test stays (λ e. omega (arith, left_same stays v e)) (λ e. omega (arith, left_none stays v e))

-- ---- RULES 9.7: work counts for each open section

pub charged_open : (f : Figures) (r a l : ℕ) → holds f r l ≡ true → charged f r a l ≡ at f.units l + a
unfolding charged
charged_open f r a l h = if_true _ _ _ h

pub charged_closed : (f : Figures) (r a l : ℕ) → holds f r l ≡ false → charged f r a l ≡ at f.units l
unfolding charged
charged_closed f r a l h = if_false _ _ _ h

-- ---- RULES 9.7: and for the delay of each released task of greater base, which has a greatest value

-- r's work counts for t
pub record Counts (p : Plan) (f : Figures) (r t : ℕ) : Type 0 where
  pub out : 0 < at f.released t
  pub lower : at p.base r < at p.base t

module _ (p : Plan) (f : Figures) (r a t : ℕ) where
  pub delayed_cases : (Counts p f r t × (delayed p f r a t ≡ min max_delay (at f.delay t + a))) ⊎
      ((Counts p f r t → ⊥) × (delayed p f r a t ≡ at f.delay t))
  unfolding delayed
  delayed_cases = by_test (ltb 0 (at f.released t) && ltb (at p.base r) (at p.base t))
      (λ e. let (u, v) = and_true (ltb 0 (at f.released t)) (ltb (at p.base r) (at p.base t)) e in
      inl (record { out = ltb-true 0 (at f.released t) u; lower = ltb-true (at p.base r) (at p.base t) v }, if_true _ _ _ e))
      (λ e. inr (
        (λ c. let z : true ≡ false = sym (true_and (ltb 0 (at f.released t)) (ltb (at p.base r) (at p.base t))
            (lt-ltb 0 (at f.released t) c.out) (lt-ltb (at p.base r) (at p.base t) c.lower)) ∙ e in untrue z),
        if_false _ _ _ e,
      ))

  pub delayed_more : Counts p f r t → delayed p f r a t ≡ min max_delay (at f.delay t + a)
  delayed_more c = ⊎_elim (λ (_, e). e) (λ (n, _). absurd (n c)) delayed_cases

  pub delayed_same : (Counts p f r t → ⊥) → delayed p f r a t ≡ at f.delay t
  delayed_same n = ⊎_elim (λ (c, _). absurd (n c)) (λ (_, e). e) delayed_cases

-- ---- RULES 13.4: the locks that may hold up a task

module _ (p : Plan) (b l : ℕ) where
  pub block_high : may_block p b l ≡ true → b ≤ at p.ceiling l
  unfolding may_block
  block_high m = leb-true b (at p.ceiling l) (and_true _ (lower_user p b l) m).0

  pub block_user : may_block p b l ≡ true → (x : ℕ) × (x < p.tasks) × (lower_at p b l x ≡ true)
  unfolding may_block lower_user
  block_user m = any_some (lower_at p b l) p.tasks (and_true (leb b (at p.ceiling l)) _ m).1

  pub lower_so : (x : ℕ) → lower_at p b l x ≡ true → (declares p x l ≡ true) × (at p.base x < b)
  unfolding lower_at
  lower_so x e = let (d, h) = and_true (declares p x l) (ltb (at p.base x) b) e in (d, ltb-true (at p.base x) b h)

  pub blocks : (x : ℕ) → b ≤ at p.ceiling l → x < p.tasks → declares p x l ≡ true → at p.base x < b → may_block p b l ≡ true
  unfolding may_block lower_user lower_at
  blocks x c q d h = true_and _ _ (le-leb b (at p.ceiling l) c)
      (some_any (lower_at p b l) p.tasks x q (true_and (declares p x l) (ltb (at p.base x) b) d (lt-ltb (at p.base x) b h)))

  -- such a lock counts with its limit, and any other not
  pub limit_blocks : may_block p b l ≡ true → limit_if p b l ≡ at p.limit l
  unfolding limit_if
  limit_blocks m = if_true _ _ _ m

  pub limit_else : may_block p b l ≡ false → limit_if p b l ≡ 0
  unfolding limit_if
  limit_else m = if_false _ _ _ m
