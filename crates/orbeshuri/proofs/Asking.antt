-- What one word and two ask for. Assumes nothing.
use mathlib.Core.Path.{◌≡◌, ◌∙◌, ap}
use mathlib.Core.Bool.{true, false}
use mathlib.Core.List.{List}
use Prim.Native.Nat.{ℕ, ◌≤◌, ◌<◌}
use native.Mathlib.Omega.{arith}
use lib.Dec.{eqb, leb}
use borrow.Author.Tests.{le-leb, lt-leb, ne_eqb}
use Rattle.std.specs.Prelude.{Some, None, if◌then◌else◌}
use Rattle.rules.specs.declared.protocol.Protocol.TheVariants.{Second, First}
use Rattle.rules.proofs.Numbers.Choice.{if_true, if_false}
use Rattle.page.specs.Ascii.{ascii}
use Rattle.texts.specs.Cut.{same}
use Rattle.orbeshuri.specs.Words.{report_by, words_by, by_one, by_two, asked_by}

pub one_first : (word : List ℕ) → same word (ascii "first") ≡ true → by_one word ≡ Some (report_by First)
unfolding by_one
one_first word e = if_true (same word (ascii "first")) _ _ e

pub one_explain : (word : List ℕ) → same word (ascii "first") ≡ false → same word (ascii "explain") ≡ true → by_one word ≡ Some (words_by Second)
unfolding by_one
one_explain word e h = if_false (same word (ascii "first")) _ _ e ∙ if_true (same word (ascii "explain")) _ _ h

pub one_none : (word : List ℕ) → same word (ascii "first") ≡ false → same word (ascii "explain") ≡ false → by_one word ≡ None
unfolding by_one
one_none word e h = if_false (same word (ascii "first")) _ _ e ∙ if_false (same word (ascii "explain")) _ _ h

pub two_both : (one two : List ℕ) → same one (ascii "first") ≡ true → same two (ascii "explain") ≡ true → by_two one two ≡ Some (words_by First)
unfolding by_two
two_both one two e h = if_true (same one (ascii "first")) _ _ e ∙ if_true (same two (ascii "explain")) _ _ h

pub two_first : (one two : List ℕ) → same one (ascii "first") ≡ true → same two (ascii "explain") ≡ false → by_two one two ≡ None
unfolding by_two
two_first one two e h = if_true (same one (ascii "first")) _ _ e ∙ if_false (same two (ascii "explain")) _ _ h

pub two_none : (one two : List ℕ) → same one (ascii "first") ≡ false → by_two one two ≡ None
unfolding by_two
two_none one two e = if_false (same one (ascii "first")) _ _ e

pub ruleset asking = (one_first, one_explain, one_none, two_both, two_first, two_none)

-- ---- by how many words there are

module _ (count : ℕ) (one two : List ℕ) where
  pub count_alone : count ≤ 1 → asked_by count one two ≡ Some (report_by Second)
  unfolding asked_by
  count_alone l = if_true (leb count 1) _ _ (le-leb count 1 l)

  pub count_one : count ≡ 2 → asked_by count one two ≡ by_one one
  unfolding asked_by
  count_one e = ap (λ n. asked_by n one two) e

  pub count_two : count ≡ 3 → asked_by count one two ≡ by_two one two
  unfolding asked_by
  count_two e = ap (λ n. asked_by n one two) e

  pub count_more : 3 < count → asked_by count one two ≡ None
  unfolding asked_by
  count_more l =
      if_false (leb count 1) _ _ (lt-leb count 1 (omega arith))
      ∙ if_false (eqb count 2) _ _ (ne_eqb count 2 (λ e. omega arith))
      ∙ if_false (eqb count 3) _ _ (ne_eqb count 3 (λ e. omega arith))

pub ruleset counts = (count_alone, count_one, count_two, count_more)
