-- The place of refusal 25 is that of the first byte where no text of the form could go on. Assumes nothing.
use mathlib.Core.Path.{◌≡◌, refl, sym, ◌∙◌, ap}
use mathlib.Core.Logic.{⊎_elim}
use mathlib.Core.List.{List, [], ◌∷◌, ◌++◌, append_assoc}
use Prim.Native.Nat.{ℕ, ◌+◌, ◌-◌, ◌≤◌, ◌<◌}
use native.Mathlib.Omega.{arith}
use lib.Dec.{eqb}
use lib.ListN.{length, take, drop, length-append}
use lib.Seq.{take_at, take-add}
use borrow.Author.Tests.{eqb-true, eqb-false}
use Rattle.rules.specs.declared.event.Event.{Event}
use Rattle.jobs.specs.Grammar.{text_of}
use Rattle.rules.specs.declared.event.Event.TheVariants.{Acquire, Unlock, Work, Finish}
use Rattle.jobs.specs.Reader.{Mode, Move, Answer, sign, mark_of, step, prepend, ends, ends_in, onward, run, read_job}
use Rattle.jobs.specs.Reader.Mark.{right}
use Rattle.jobs.specs.Reader.Mode.{fresh, units, bracket, lock, after}
use Rattle.jobs.specs.Reader.Move.{move, stop}
use Rattle.jobs.specs.Reader.Answer.{refused, read}
use Rattle.jobs.specs.Promised.{Begins, Place}
use Rattle.rules.proofs.Numbers.Choice.{if_true, if_false, by_test, lt_or_le}
use Rattle.jobs.proofs.Steps.{prepend_none, prepend_two, Turns, units_ends, lock_ends}
use Rattle.jobs.proofs.Decimals.{units_read, lock_read, one_digit}
use Rattle.jobs.proofs.Texts.{read_letter, read_right, text_read}
use Rattle.jobs.proofs.Forms.{text_of_read}

never : {P : Type 0} {rest : List ℕ} {es : List Event} → refused rest ≡ read es → P
never {rest = rest} {es} e = let z : ◌≡◌ {A = ℕ} 0 1 = cc in absurd (omega arith)

-- ---- from everywhere some text goes on to its end

closed : List ℕ → List ℕ
closed [] = []
closed (l ∷ ls) = 93 ∷ closed ls

abbrev Ends : List ℕ → Mode → List ℕ → Type 0
Ends q m ls = (es : List Event) × (run q m ls ≡ read es)

before_ends : (xs : List Event) (r : Answer) (es : List Event) → r ≡ read es → (fs : List Event) × (prepend xs r ≡ read fs)
unfolding prepend
before_ends xs r es h = (xs ++ es, ap (prepend xs) h)

closes : (ls : List ℕ) → Ends (closed ls) after ls
unfolding closed run ends_in ends
closes [] = (Finish ∷ [], refl)
closes (l ∷ ls) =
    let (es, h) = closes ls in
    let (fs, g) = before_ends (Unlock l ∷ []) (run (closed ls) after ls) es h in
    (fs, read_right l (closed ls) ls ∙ g)

turns_closed : (ls : List ℕ) → Turns (closed ls)
unfolding closed Turns sign mark_of
turns_closed [] = tt
turns_closed (l ∷ ls) = (right, refl)

units_closes : (v : ℕ) (ls : List ℕ) → (v ≡ 0 → ⊥) → Ends (closed ls) (units v) ls
units_closes v ls z =
    let (es, h) = closes ls in
    let (fs, g) = before_ends (Work v ∷ []) (run (closed ls) after ls) es h in
    (fs, units_ends (closed ls) v ls z (turns_closed ls) ∙ g)

one_closes : (ls : List ℕ) → Ends (49 ∷ closed ls) (units 0) ls
one_closes ls =
    let (es, h) = units_closes 1 ls (λ y. omega arith) in
    (es, ap (λ x. run (x ++ closed ls) (units 0) ls) (sym (one_digit 1 (omega arith))) ∙ units_read 1 (closed ls) ls (omega arith) (omega arith) ∙ h)

lock_closes : (v : ℕ) (ls : List ℕ) → Ends (93 ∷ closed ls) (lock v) ls
unfolding closed
lock_closes v ls =
    let (es, h) = closes (v ∷ ls) in
    let (fs, g) = before_ends (Acquire v ∷ []) (run (closed (v ∷ ls)) after (v ∷ ls)) es h in
    (fs, lock_ends (closed (v ∷ ls)) v ls (turns_closed (v ∷ ls)) ∙ g)

finishes : (m : Mode) (ls : List ℕ) → (q : List ℕ) × Ends q m ls
finishes fresh ls = let (es, h) = one_closes ls in (119 ∷ 49 ∷ closed ls, (es, read_letter (49 ∷ closed ls) ls ∙ h))
finishes (units v) ls = by_test (eqb v 0)
    (λ y. let z : v ≡ 0 = eqb-true v 0 y in let (es, h) = one_closes ls in (49 ∷ closed ls, (es, ap (λ x. run (49 ∷ closed ls) (units x) ls) z ∙ h)))
    (λ y. (closed ls, units_closes v ls (eqb-false v 0 y)))
finishes bracket ls =
    let (es, h) = lock_closes 0 ls in
    (48 ∷ 93 ∷ closed ls, (es, ap (λ x. run (x ++ 93 ∷ closed ls) bracket ls) (sym (one_digit 0 (omega arith))) ∙ lock_read 0 (93 ∷ closed ls) ls (omega arith) ∙ h))
finishes (lock v) ls = (93 ∷ closed ls, lock_closes v ls)
finishes after ls = (closed ls, closes ls)

-- ---- where the reader stops: it came there with what it read, and goes on from there the same way whatever follows

record Stuck (t : List ℕ) (m : Mode) (ls : List ℕ) (rest : List ℕ) : Type 0 where
  front : List ℕ
  mode : Mode
  held : List ℕ
  said : List Event
  split : t ≡ front ++ rest
  same : (q : List ℕ) → run (front ++ q) m ls ≡ prepend said (run q mode held)
  bad : (c : ℕ) (r : List ℕ) → rest ≡ c ∷ r → (q : List ℕ) → run (c ∷ q) mode held ≡ refused (c ∷ q)

refused_after : (xs : List Event) (r : Answer) (rest : List ℕ) → prepend xs r ≡ refused rest → r ≡ refused rest
unfolding prepend
refused_after xs (refused s) rest e = e
refused_after xs (read fs) rest e = never (sym e)

ends_empty : (ls rest : List ℕ) → ends ls ≡ refused rest → rest ≡ []
unfolding ends
ends_empty [] rest e = never (sym e)
ends_empty (l ∷ ls) rest e = cc

end_empty : (m : Mode) (ls rest : List ℕ) → ends_in m ls ≡ refused rest → rest ≡ []
unfolding ends_in
end_empty fresh ls rest e = cc
end_empty (units v) ls rest e = by_test (eqb v 0)
    (λ y. let g : refused [] ≡ refused rest = sym (if_true (eqb v 0) _ _ y) ∙ e in cc)
    (λ y. ends_empty ls rest (refused_after (Work v ∷ []) (ends ls) rest (sym (if_false (eqb v 0) _ _ y) ∙ e)))
end_empty bracket ls rest e = cc
end_empty (lock v) ls rest e = cc
end_empty after ls rest e = ends_empty ls rest e

no_cons : {P : Type 0} {c : ℕ} {r rest : List ℕ} → rest ≡ [] → rest ≡ c ∷ r → P
no_cons {c = c} {r} {rest} e f = let z : ◌≡◌ {A = ℕ} 0 1 = cc in absurd (omega arith)

stuck_here : (b : ℕ) (t : List ℕ) (m : Mode) (ls rest : List ℕ) → step m (sign b) ls ≡ stop → run (b ∷ t) m ls ≡ refused rest → Stuck (b ∷ t) m ls rest
unfolding run onward
stuck_here b t m ls rest e h =
    let g : refused (b ∷ t) ≡ refused rest = sym (ap (λ x. onward x (b ∷ t) (λ m'' ls''. run t m'' ls'')) e) ∙ h in
    let k : b ∷ t ≡ rest = cc in
    record {
      front = [];
      mode = m;
      held = ls;
      said = [];
      split = k;
      same = λ q. sym (prepend_none (run q m ls));
      bad = λ c r f q. let o : c ≡ b = heads (sym f ∙ sym k) in ap (λ x. onward (step m (sign x) ls) (c ∷ q) (λ m'' ls''. run q m'' ls'')) o ∙ ap (λ x. onward x (c ∷ q) (λ m'' ls''. run q m'' ls'')) e;
    }
  where
    heads : {x y : ℕ} {u v : List ℕ} → x ∷ u ≡ y ∷ v → x ≡ y
    heads {x} {y} {u} {v} e = cc

stuck_later : (b : ℕ) (t : List ℕ) (m m' : Mode) (ls ls' rest : List ℕ) (es : List Event) → step m (sign b) ls ≡ move m' ls' es → Stuck t m' ls' rest → Stuck (b ∷ t) m ls rest
unfolding run onward
stuck_later b t m m' ls ls' rest es e s =
    record {
      front = b ∷ s.front;
      mode = s.mode;
      held = s.held;
      said = es ++ s.said;
      split = ap (λ x. b ∷ x) s.split;
      same = λ q. ap (λ x. onward x (b ∷ (s.front ++ q)) (λ m'' ls''. run (s.front ++ q) m'' ls'')) e ∙ ap (prepend es) (s.same q) ∙ prepend_two es s.said (run q s.mode s.held);
      bad = s.bad;
    }

stuck : (t : List ℕ) (m : Mode) (ls rest : List ℕ) → run t m ls ≡ refused rest → Stuck t m ls rest
unfolding run onward
stuck [] m ls rest h =
    let e : rest ≡ [] = end_empty m ls rest h in
    record { front = []; mode = m; held = ls; said = []; split = sym e; same = λ q. sym (prepend_none (run q m ls)); bad = λ c r f q. no_cons e f }
stuck (b ∷ t) m ls rest h = by_move (step m (sign b) ls) refl (λ m' ls'. stuck t m' ls' rest)
  where
    by_move : (v : Move) → step m (sign b) ls ≡ v → ((m' : Mode) (ls' : List ℕ) → run t m' ls' ≡ refused rest → Stuck t m' ls' rest) → Stuck (b ∷ t) m ls rest
    by_move stop e ih = stuck_here b t m ls rest e h
    by_move (move m' ls' es) e ih = stuck_later b t m m' ls ls' rest es e
        (ih m' ls' (refused_after es (run t m' ls') rest (sym (ap (λ x. onward x (b ∷ t) (λ m'' ls''. run t m'' ls'')) e) ∙ h)))

-- ---- the place

fresh_read : (u : List ℕ) (es : List Event) → run u fresh [] ≡ read es → read_job u ≡ read es
unfolding read_job run ends_in
fresh_read [] es h = never h
fresh_read (c ∷ t) es h = h

job_fresh : (u : List ℕ) → 1 ≤ length u → read_job u ≡ run u fresh []
unfolding read_job
job_fresh [] l = absurd (omega arith)
job_fresh (c ∷ t) l = refl

-- what was read begins some text of the form
front_begins : (text rest : List ℕ) (s : Stuck text fresh [] rest) → Begins s.front
unfolding Begins prepend
front_begins text rest s =
    let (q, (es, h)) = finishes s.mode s.held in
    let r : run (s.front ++ q) fresh [] ≡ read (s.said ++ es) = s.same q ∙ ap (prepend s.said) h in
    let (b, g, e) = text_of_read (s.front ++ q) (s.said ++ es) (fresh_read (s.front ++ q) (s.said ++ es) r) in
    (b, q, g, e)

-- and with the byte after it none
no_more : (text : List ℕ) (x : ℕ) (r : List ℕ) (s : Stuck text fresh [] (x ∷ r)) → Begins (s.front ++ x ∷ []) → ⊥
unfolding Begins prepend
no_more text x r s (b, q, g, e) =
    let u : text_of b ≡ s.front ++ x ∷ q = e ∙ append_assoc s.front (x ∷ []) q in
    let l : 1 ≤ length (s.front ++ x ∷ q) = omega (arith, length-append s.front (x ∷ q)) in
    let f : read_job (s.front ++ x ∷ q) ≡ refused (x ∷ q) = job_fresh (s.front ++ x ∷ q) l ∙ s.same (x ∷ q) ∙ ap (prepend s.said) (s.bad x r refl q) in
    never (sym f ∙ ap read_job (sym u) ∙ text_read b g)

none_at : (text rest : List ℕ) (s : Stuck text fresh [] rest) (n : ℕ) → length s.front ≡ n → n < length text → Begins (take (n + 1) text) → ⊥
none_at text [] s n e l z = absurd (omega (arith, ap length s.split, length-append s.front []))
none_at text (x ∷ r) s n e l z =
    let c : take (n + 1) text ≡ s.front ++ x ∷ [] = ap (take (n + 1)) (s.split ∙ sym (append_assoc s.front (x ∷ []) r)) ∙ take_at (s.front ++ x ∷ []) r (n + 1) (length-append s.front (x ∷ []) ∙ omega arith) in
    no_more text x r s (rw c at z)

-- what is left, and so the place, from the end
pub refused_place : (text rest : List ℕ) → read_job text ≡ refused rest → Place text (length text - length rest)
unfolding read_job
refused_place [] rest h = never (sym h)
refused_place (c ∷ t) rest h =
    let s : Stuck (c ∷ t) fresh [] rest = stuck (c ∷ t) fresh [] rest h in
    let n : ℕ = length (c ∷ t) - length rest in
    let e : length s.front ≡ n = omega (arith, ap length s.split, length-append s.front rest) in
    let cut : take n (c ∷ t) ≡ s.front = ap (take n) s.split ∙ take_at s.front rest n e in
    record { within = omega arith; before = rw cut (front_begins (c ∷ t) rest s); none = λ l z. none_at (c ∷ t) rest s n e l z; unfit = λ b g f. never (sym h ∙ ap read_job (sym f) ∙ text_read b g) }

-- there is one such place
begins_less : (text : List ℕ) (m n : ℕ) → m ≤ n → Begins (take n text) → Begins (take m text)
unfolding Begins
begins_less text m n l (b, q, g, e) =
    let k : m + (n - m) ≡ n = omega arith in
    (b, take (n - m) (drop m text) ++ q, g, e ∙ ap (λ x. take x text ++ q) (sym k) ∙ ap (λ x. x ++ q) (take-add m (n - m) text) ∙ append_assoc (take m text) (take (n - m) (drop m text)) q)

pub one_place_lem : (text : List ℕ) (m n : ℕ) → Place text m → Place text n → m ≡ n
one_place_lem text m n p q = ⊎_elim
    (λ (l : m < n). absurd (p.none (omega (arith, q.within)) (begins_less text (m + 1) n (omega arith) q.before)))
    (λ (l : n ≤ m). ⊎_elim
    (λ (l' : n < m). absurd (q.none (omega (arith, p.within)) (begins_less text (n + 1) m (omega arith) p.before)))
    (λ (l' : m ≤ n). omega arith)
    (lt_or_le n m))
    (lt_or_le m n)
