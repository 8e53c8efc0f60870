-- Laws of a text that is typed part by part. Assumes nothing.
use mathlib.Core.Path.{◌≡◌, refl, sym, ◌∙◌, ap, ap₂}
use mathlib.Core.Logic.{⊎_elim}
use mathlib.Core.List.{List, [], ◌∷◌, ◌++◌, append_assoc, append-nil}
use Prim.Native.Nat.{ℕ, suc, ◌+◌, ◌≤◌, ◌<◌, min}
use native.Mathlib.Numerals.{add-one}
use native.Mathlib.Omega.{arith}
use denote.MutBor.{MutBor, at_last}
use lib.Dec.{ltb}
use lib.ListN.{length, set, take, length-set}
use lib.Seq.{set_out, length-take-le}
use borrow.Author.Tests.{lt-ltb, le-ltb}
use Rattle.rules.proofs.Numbers.Choice.{if_true, if_false, lt_or_le}
use Rattle.rules.proofs.Numbers.Stored.{length_stored}
use Rattle.rules.specs.Numbers.Place.{stored}
use Rattle.page.specs.declared.Page.{Page}
use Rattle.page.specs.Page.{Laid, page, put, typed}

-- one byte, as the code puts it: within the bytes, and past them
pub put_within : {T : Type 0} (out : MutBor (List T)) (i : ℕ) (b : T) → i < length out.now → page (at_last out (set out.now i b)) (i + 1) ≡ typed (page out i) (b ∷ [])
unfolding typed put
put_within out i b l = ap (page (at_last out (set out.now i b))) (sym (if_true (ltb i (length out.now)) (i + 1) i (lt-ltb i (length out.now) l)))

pub put_past : {T : Type 0} (out : MutBor (List T)) (i : ℕ) (b : T) → length out.now ≤ i → page out i ≡ typed (page out i) (b ∷ [])
unfolding typed put
put_past out i b l = ap₂ page (ap (at_last out) (sym (set_out out.now i b l))) (sym (if_false (ltb i (length out.now)) (i + 1) i (le-ltb i (length out.now) l)))

-- a text after a text
pub typed_on : {T : Type 0} (p : Page T) (a b : List T) → typed (typed p a) b ≡ typed p (a ++ b)
unfolding typed
typed_on p [] b = refl
typed_on p (x ∷ a) b = typed_on (put p x) a b

-- the same of three pages, for a search from the last one back
pub typed_two : {T : Type 0} (p q r : Page T) (a b : List T) → q ≡ typed p a → r ≡ typed q b → r ≡ typed p (a ++ b)
typed_two p q r a b g h = h ∙ ap (λ s. typed s b) g ∙ typed_on p a b

-- nothing
pub typed_none : {T : Type 0} (p : Page T) → typed p [] ≡ p
unfolding typed
typed_none p = refl

-- what a function needs that types one text after the other
pub ruleset typing = (typed_on, typed_none, append_assoc, append-nil)

-- ---- a text laid into bytes

pub laid_within : (old : List ℕ) (i b : ℕ) → i < length old → Laid old i (b ∷ []) (set old i b) (i + 1)
laid_within old i b l = record { typed = λ m e. sym (put_within m i b (omega (arith, l, ap length e))) ∙ ap (λ o. page (at_last m (set o i b)) (i + 1)) e }

pub laid_past : (old : List ℕ) (i b : ℕ) → length old ≤ i → Laid old i (b ∷ []) old i
laid_past old i b l = record { typed = λ m e. sym (put_past m i b (omega (arith, l, ap length e))) ∙ ap (λ o. page (at_last m o) i) e }

pub laid_none : (old : List ℕ) (i : ℕ) → Laid old i [] old i
unfolding typed
laid_none old i = record { typed = λ m e. ap (λ o. page (at_last m o) i) e }

-- two texts that make a third where they are typed, one after the other, make it where they are laid
pub laid_as : (a b c : List ℕ) (i j k : ℕ) (x y z : List ℕ) → ((p : Page ℕ) → typed (typed p x) y ≡ typed p z) → Laid a i x b j → Laid b j y c k → Laid a i z c k
laid_as a b c i j k x y z make h g =
    record { typed = λ m e. sym (make (page m i)) ∙ ap (λ p. typed p y) (h.typed m e) ∙ g.typed (at_last m b) refl }

pub laid_on : (a b c : List ℕ) (i j k : ℕ) (x y : List ℕ) → Laid a i x b j → Laid b j y c k → Laid a i (x ++ y) c k
laid_on a b c i j k x y h g = laid_as a b c i j k x y (x ++ y) (λ p. typed_on p x y) h g

-- ---- what is typed is what was to be written

stored_past : (out : List ℕ) (i : ℕ) (text : List ℕ) → length out ≤ i → stored out i text ≡ out
unfolding stored
stored_past out i [] l = refl
stored_past out i (b ∷ bs) l = ap (λ o. stored o (suc i) bs) (set_out out i b l) ∙ stored_past out (suc i) bs (omega arith)

typed_stored : (out : MutBor (List ℕ)) (i : ℕ) (text : List ℕ) → i ≤ length out.now
    → typed (page out i) text ≡ page (at_last out (stored out.now i text)) (min (i + length text) (length out.now))
unfolding typed stored
typed_stored out i [] l = ap (page out) (omega arith)
typed_stored out i (b ∷ bs) l = ⊎_elim
    (λ (h : i < length out.now). ap (λ p. typed p bs) (sym (put_within out i b h) ∙ ap (page (at_last out (set out.now i b))) (add-one i))
    ∙ typed_stored (at_last out (set out.now i b)) (suc i) bs (omega (arith, length-set out.now i b))
    ∙ ap (page (at_last out (stored (set out.now i b) (suc i) bs))) (omega (arith, length-set out.now i b)))
    (λ (h : length out.now ≤ i). ap (λ p. typed p bs) (sym (put_past out i b h))
    ∙ typed_stored out i bs l
    ∙ ap₂ (λ o. page (at_last out o)) (stored_past out.now i bs h ∙ sym (ap (λ o. stored o (suc i) bs) (set_out out.now i b h) ∙ stored_past out.now (suc i) bs (omega arith))) (omega arith))
    (lt_or_le i (length out.now))

-- from the start: the same lent bytes have the text, and the place is where it ends
pub typed_new : (out : MutBor (List ℕ)) (text : List ℕ)
    → typed (page out 0) text ≡ page (at_last out (stored out.now 0 text)) (min (length text) (length out.now))
typed_new out text = typed_stored out 0 text (omega arith) ∙ ap (page (at_last out (stored out.now 0 text))) (omega arith)

-- so many bytes stand at the front
pub front_within : (out ys : List ℕ) (r : ℕ) (text : List ℕ) → ys ≡ stored out 0 text → r ≡ min (length text) (length out) → r ≤ length ys
front_within out ys r text h e = omega (arith, ap length h ∙ length_stored out 0 text)

pub front_long : (out ys : List ℕ) (r : ℕ) (text : List ℕ) → ys ≡ stored out 0 text → r ≡ min (length text) (length out) → r ≡ length (take r ys)
front_long out ys r text h e = sym (length-take-le r ys (front_within out ys r text h e))
