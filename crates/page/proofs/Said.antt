-- Laws of a text, a number and a sentence with numbers that are typed, or laid, byte by byte. Assumes nothing.
use mathlib.Core.Path.{◌≡◌, sym, ◌∙◌, ap}
use mathlib.Core.List.{List, [], ◌∷◌, ◌++◌}
use Prim.Native.Nat.{ℕ, suc, ◌+◌, ◌/◌, ◌%◌, ◌≤◌, ◌<◌}
use native.Mathlib.Nat.{add-zero}
use native.Mathlib.Numerals.{add-one}
use denote.MutBor.{at_last}
use lib.Dec.{eqb}
use lib.ListN.{length, drop, drop_of_length-le}
use lib.Seq.{drop-cons, drop-drop, get_or-drop}
use borrow.Author.Tests.{eq-eqb, ne_eqb}
use Rattle.rules.specs.Numbers.Place.{at}
use Rattle.rules.proofs.Numbers.Choice.{if_true, if_false}
use Rattle.page.specs.declared.Page.{Page}
use Rattle.page.specs.Page.{Laid, page, typed}
use Rattle.page.specs.Decimal.{digit, digits}
use Rattle.page.specs.Says.{mark, filled}
use Rattle.page.proofs.Numbers.{digits_one, digits_more}
use Rattle.page.proofs.Typed.{typed_on, laid_none, laid_as, laid_on}

-- what is left of a sentence from place k on, with the numbers from j on
filled_mark : (text ns : List ℕ) (k j : ℕ) → k < length text → at text k ≡ mark
    → filled (drop k text) (drop j ns) ≡ digits (at ns j) ++ filled (drop (suc k) text) (drop (suc j) ns)
unfolding filled
filled_mark text ns k j l e =
    ap (λ t. filled t (drop j ns)) (drop-cons text k 0 l)
    ∙ if_true (eqb (at text k) mark) _ _ (eq-eqb (at text k) mark e)
    ∙ ap (λ n. digits n ++ filled (drop (suc k) text) (drop 1 (drop j ns))) (get_or-drop j ns 0 0 ∙ ap (at ns) (add-zero j))
    ∙ ap (λ m. digits (at ns j) ++ filled (drop (suc k) text) m) (drop-drop 1 j ns ∙ ap (λ m. drop m ns) (add-one j))

filled_byte : (text ns : List ℕ) (k j : ℕ) → k < length text → (at text k ≡ mark → ⊥)
    → filled (drop k text) (drop j ns) ≡ at text k ∷ filled (drop (suc k) text) (drop j ns)
unfolding filled
filled_byte text ns k j l e =
    ap (λ t. filled t (drop j ns)) (drop-cons text k 0 l) ∙ if_false (eqb (at text k) mark) _ _ (ne_eqb (at text k) mark e)

-- one byte, or one number: what is typed and what is left make the same
pub said_mark : (p : Page ℕ) (text ns : List ℕ) (k j : ℕ) → k < length text → at text k ≡ mark
    → typed (typed p (digits (at ns j))) (filled (drop (k + 1) text) (drop (j + 1) ns)) ≡ typed p (filled (drop k text) (drop j ns))
said_mark p text ns k j l m = rw (add-one k, add-one j)
    (typed_on p (digits (at ns j)) (filled (drop (suc k) text) (drop (suc j) ns)) ∙ ap (typed p) (sym (filled_mark text ns k j l m)))

pub said_byte : (p : Page ℕ) (text ns : List ℕ) (k j : ℕ) → k < length text → (at text k ≡ mark → ⊥)
    → typed (typed p (at text k ∷ [])) (filled (drop (k + 1) text) (drop j ns)) ≡ typed p (filled (drop k text) (drop j ns))
said_byte p text ns k j l m = rw (add-one k)
    (typed_on p (at text k ∷ []) (filled (drop (suc k) text) (drop j ns)) ∙ ap (typed p) (sym (filled_byte text ns k j l m)))

-- at the end nothing is left
pub said_ends : (p : Page ℕ) (text ns : List ℕ) (k j : ℕ) → length text ≤ k → typed p (filled (drop k text) (drop j ns)) ≡ p
unfolding typed filled
said_ends p text ns k j l = ap (λ t. typed p (filled t (drop j ns))) (drop_of_length-le text l)

-- ---- and so where it is laid

module _ (text ns old mid : List ℕ) (i m k j : ℕ) (l : k < length text) where
  pub laid_mark : at text k ≡ mark → Laid old i (digits (at ns j)) mid m → (new : List ℕ) (place : ℕ)
      → Laid mid m (filled (drop (k + 1) text) (drop (j + 1) ns)) new place → Laid old i (filled (drop k text) (drop j ns)) new place
  laid_mark e h new place g = laid_as old mid new i m place (digits (at ns j)) (filled (drop (k + 1) text) (drop (j + 1) ns)) (filled (drop k text) (drop j ns))
      (λ p. said_mark p text ns k j l e) h g

  pub laid_byte : (at text k ≡ mark → ⊥) → Laid old i (at text k ∷ []) mid m → (new : List ℕ) (place : ℕ)
      → Laid mid m (filled (drop (k + 1) text) (drop j ns)) new place → Laid old i (filled (drop k text) (drop j ns)) new place
  laid_byte e h new place g = laid_as old mid new i m place (at text k ∷ []) (filled (drop (k + 1) text) (drop j ns)) (filled (drop k text) (drop j ns))
      (λ p. said_byte p text ns k j l e) h g

  -- a byte of a text
  pub laid_next : Laid old i (at text k ∷ []) mid m → (new : List ℕ) (place : ℕ) → Laid mid m (drop (k + 1) text) new place → Laid old i (drop k text) new place
  laid_next h new place = rw (add-one k, drop-cons text k 0 l)
      (λ g. laid_on old mid new i m place (at text k ∷ []) (drop (suc k) text) h g)

pub laid_ends : (text ns old : List ℕ) (i k j : ℕ) → length text ≤ k → Laid old i (filled (drop k text) (drop j ns)) old i
laid_ends text ns old i k j l = record { typed = λ m e. said_ends (page m i) text ns k j l ∙ ap (λ o. page (at_last m o) i) e }

pub laid_rest : (text old : List ℕ) (i k : ℕ) → length text ≤ k → Laid old i (drop k text) old i
laid_rest text old i k l = rw (drop_of_length-le text l) (laid_none old i)

-- a number: a digit, after those of a tenth of it where there are more
pub laid_digit : (n d : ℕ) (old new : List ℕ) (i place : ℕ) → n < 10 → d ≡ digit (n % 10) → Laid old i (d ∷ []) new place → Laid old i (digits n) new place
laid_digit n d old new i place l e h = rw (digits_one n l) (rw e at h)

pub laid_digits : (n d : ℕ) (old mid new : List ℕ) (i m place : ℕ) → 10 ≤ n → d ≡ digit (n % 10) → Laid old i (digits (n / 10)) mid m
    → Laid mid m (d ∷ []) new place → Laid old i (digits n) new place
laid_digits n d old mid new i m place l e h g = rw (digits_more n l) (laid_on old mid new i m place (digits (n / 10)) (digit (n % 10) ∷ []) h (rw e at g))
