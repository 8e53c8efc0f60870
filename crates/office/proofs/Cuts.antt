-- A text's records are kept up to one more than there may be: then the writer says of them what it says of all. Assumes nothing.
use Rattle.std.specs.Prelude.{Ok, Err}
use Rattle.rules.specs.Numbers.Verdict.{Verdict, refused_at}
use mathlib.Core.Path.{◌≡◌, refl, sym, ◌∙◌, ap}
use mathlib.Core.Logic.{⊎_elim}
use mathlib.Core.Bool.{false, ◌&&◌, ◌||◌}
use mathlib.Core.List.{List, [], ◌∷◌, ◌++◌}
use Prim.Native.Nat.{ℕ, zero, suc, ◌-◌, ◌%◌, ◌≤◌, ◌<◌, min}
use native.Mathlib.Omega.{arith}
use lib.Dec.{eqb, ltb}
use lib.ListN.{length, take, drop, set, length-take, length-set}
use lib.Seq.{take_all, take-append_seam, set_out, ext_get_or}
use borrow.Author.Tests.{lt-ltb, ltb-false, ne_eqb}
use Rattle.rules.specs.Numbers.Capacity.{max_tasks, max_locks, max_uses, max_events}
use Rattle.rules.specs.Numbers.Place.{at, renewed, stored, tabulate}
use Rattle.rules.specs.Numbers.Refusal.{Check, number_of, first_fault, check_for}
use Rattle.rules.specs.Books.Plan.{most, count_fault}
use Rattle.rules.specs.Books.Book.{count_check}
use Rattle.rules.specs.Books.Write.{counts_of, whole_checks, write_checks, wrote_as, write_of}
use Rattle.rules.specs.declared.refusal.Refusal.{Refusal}
use Rattle.rules.specs.declared.refusal.Refusal.TheVariants.{WrongCount}
use Rattle.rules.proofs.Numbers.Choice.{lt_or_le, or_false}
use Rattle.rules.proofs.Numbers.Checks.{Clean, check_left, clean_for, same_faults}
use Rattle.rules.proofs.Numbers.Place.{renewed_front, get_d_tabulate, length_from}
use Rattle.rules.proofs.Numbers.Stored.{stored_front}
use Rattle.office.specs.Small.{Small}

-- ---- what a page keeps of a list

-- past the end nothing is stored
stored_cut : (xs : List ℕ) (i : ℕ) (vs : List ℕ) → i ≤ length xs → stored xs i vs ≡ stored xs i (take (length xs - i) vs)
unfolding stored
stored_cut xs i [] l = ap (stored xs i) (sym (take_all (length xs - i) [] (omega arith)))
stored_cut xs i (v ∷ vs) l = ⊎_elim
    (λ (h : i < length xs).
    let e : length xs - i ≡ suc (length xs - suc i) = omega arith in
    stored_cut (set xs i v) (suc i) vs (omega (arith, length-set xs i v))
    ∙ ap (λ n. stored (set xs i v) (suc i) (take (n - suc i) vs)) (length-set xs i v) ∙ sym (ap (λ n. stored xs i (take n (v ∷ vs))) e))
    (λ (h : length xs ≤ i).
    let e : length xs - i ≡ 0 = omega arith in
    past xs i (v ∷ vs) h ∙ sym (ap (λ n. stored xs i (take n (v ∷ vs))) e))
    (lt_or_le i (length xs))
  where
    past : (xs : List ℕ) (i : ℕ) (vs : List ℕ) → length xs ≤ i → stored xs i vs ≡ xs
    past xs i [] h = refl
    past xs i (v ∷ vs) h = ap (λ o. stored o (suc i) vs) (set_out xs i v h) ∙ past xs (suc i) vs (omega arith)

-- the front of a list that was put on a page of this length
pub kept_front : (out ys : List ℕ) (r : ℕ) (recs : List ℕ) → ys ≡ stored out 0 recs → r ≡ min (length recs) (length out) → take r ys ≡ take (length out) recs
kept_front out ys r recs h e =
    let long : length (take (length out) recs) ≤ length out = omega (arith, length-take (length out) recs) in
    let n : r ≡ length (take (length out) recs) = omega (arith, e, length-take (length out) recs) in
    let whole : length out - 0 ≡ length out = omega arith in
    ap (take r) (h ∙ stored_cut out 0 recs (omega arith) ∙ ap (λ k. stored out 0 (take k recs)) whole
    ∙ stored_front out (take (length out) recs) long)
    ∙ ap (λ k. take k (take (length out) recs ++ drop (length (take (length out) recs)) out)) n ∙ take-append_seam (take (length out) recs) _

-- ---- 2 is given of the cut lists as of the whole ones

-- a count, cut at one more than there may be
count_cut : (e n m : ℕ) → m ≡ most e → 0 < m → count_fault e (min (suc m) n) ≡ count_fault e n
unfolding count_fault
count_cut e n m h p = rw (sym h) (⊎_elim
    (λ (l : m < n). let c : min (suc m) n ≡ suc m = omega arith in
    rw (c, lt-ltb m (suc m) (omega arith), lt-ltb m n l, ne_eqb (suc m) 0 (λ z. omega arith), ne_eqb n 0 (λ z. omega arith)))
    (λ (l : n ≤ m). let c : min (suc m) n ≡ n = omega arith in ap (λ k. (eqb e 0 && eqb k 0) || ltb m k) c)
    (lt_or_le m n))

-- a count in range
count_fits : (e n m : ℕ) → m ≡ most e → count_fault e n ≡ false → n ≤ m
unfolding count_fault
count_fits e n m h f = rw h (ltb-false (most e) n (or_false (eqb e 0 && eqb n 0) (ltb (most e) n) f).1)

abbrev counted : (a b c d : List ℕ) → List Check
counted a b c d = count_check (counts_of a b c d) ∷ []

counts_clean : (a b c d : List ℕ) → first_fault (counted a b c d) ≡ Ok tt → Clean (count_check (counts_of a b c d))
unfolding check_for number_of
counts_clean a b c d e = clean_for (counted a b c d) e WrongCount

module _ (ts ls us es : List ℕ) where
  abbrev t' : List ℕ
  t' = take (suc max_tasks) ts

  abbrev l' : List ℕ
  l' = take (suc max_locks) ls

  abbrev u' : List ℕ
  u' = take (suc max_uses) us

  abbrev e' : List ℕ
  e' = take (suc max_events) es

  same_counts : (i : ℕ) → i < 4 → count_fault i (counts_of t' l' u' e' i) ≡ count_fault i (counts_of ts ls us es i)
  unfolding most
  same_counts zero l = ap (count_fault 0) (length-take (suc max_tasks) ts) ∙ count_cut 0 (length ts) max_tasks refl (omega arith)
  same_counts (suc zero) l = ap (count_fault 1) (length-take (suc max_locks) ls) ∙ count_cut 1 (length ls) max_locks refl (omega arith)
  same_counts (suc (suc zero)) l = ap (count_fault 2) (length-take (suc max_uses) us) ∙ count_cut 2 (length us) max_uses refl (omega arith)
  same_counts (suc (suc (suc zero))) l = ap (count_fault 3) (length-take (suc max_events) es) ∙ count_cut 3 (length es) max_events refl (omega arith)
  same_counts (suc (suc (suc (suc i)))) l = absurd (omega arith)

  same_two : first_fault (counted t' l' u' e') ≡ first_fault (counted ts ls us es)
  same_two = same_faults WrongCount 1 4 (λ i. count_fault i (counts_of t' l' u' e' i)) (λ i. count_fault i (counts_of ts ls us es i)) [] [] same_counts refl

  cut_none : Clean (count_check (counts_of ts ls us es)) → (t' ≡ ts) × (l' ≡ ls) × (u' ≡ us) × (e' ≡ es)
  unfolding most
  cut_none C = (
    take_all (suc max_tasks) ts (omega (arith, count_fits 0 (length ts) max_tasks refl (C 0 (omega arith)))),
    take_all (suc max_locks) ls (omega (arith, count_fits 1 (length ls) max_locks refl (C 1 (omega arith)))),
    take_all (suc max_uses) us (omega (arith, count_fits 2 (length us) max_uses refl (C 2 (omega arith)))),
    take_all (suc max_events) es (omega (arith, count_fits 3 (length es) max_events refl (C 3 (omega arith)))),
  )

  module _ (buffer : List ℕ) where
    refused_so : (a b c d : List ℕ) (why : Refusal) (place : ℕ) → first_fault (counted a b c d) ≡ refused_at why place
        → write_of a b c d buffer ≡ record { verdict = refused_at why place; length = 0; bytes = buffer }
    unfolding write_of write_checks whole_checks wrote_as
    refused_so a b c d why place e = rw (check_left (counted a b c d) _ why place e)

    pub cut_write : write_of t' l' u' e' buffer ≡ write_of ts ls us es buffer
    cut_write = go (first_fault (counted ts ls us es)) refl
      where
        go : (v : Verdict) → first_fault (counted ts ls us es) ≡ v → write_of t' l' u' e' buffer ≡ write_of ts ls us es buffer
        go (Ok _) e = let (a, b, c, d) = cut_none (counts_clean ts ls us es e) in rw (a, b, c, d)
        go (Err f) e = refused_so t' l' u' e' f.why f.place (same_two ∙ e) ∙ sym (refused_so ts ls us es f.why f.place e)

-- ---- numbers of two bytes

small_same : (n : ℕ) (xs : List ℕ) → Small xs → n ≡ length xs → tabulate n (λ i. at xs i % 65536) ≡ xs
small_same n xs S e = ext_get_or 0 (tabulate n (λ i. at xs i % 65536)) xs (length_from (λ i. at xs i % 65536) 0 n ∙ e)
    (λ i l. let h : i < n = omega (arith, length_from (λ i. at xs i % 65536) 0 n) in get_d_tabulate (λ i. at xs i % 65536) n i 0 h ∙ omega (arith, S.below i))

pub narrow_front : (xs out ys : List ℕ) → ys ≡ renewed out (λ i. at xs i % 65536) (length xs) → Small xs → length xs ≤ length out → take (length xs) ys ≡ xs
narrow_front xs out ys h S l =
    ap (take (length xs)) h ∙ renewed_front out (λ i. at xs i % 65536) (length xs) l ∙ small_same (length xs) xs S refl

-- ---- a front is no longer than it is cut

pub few_front : (k n : ℕ) (xs : List ℕ) → n ≤ k → length (take n xs) ≤ k
few_front k n xs l = omega (arith, length-take n xs)
