-- The reader, said of the code: in every book that `check` accepts, `read`, `read_in` and `next` find its events, one after the other, and then the end.
-- Assumes nothing.
use mathlib.Core.Path.{◌≡◌, sym, ◌∙◌, ap, subst}
use mathlib.Core.List.{List}
use Prim.Native.Nat.{ℕ}
use seplogic.Ra.Ura.{Ura}
use base.Logic.{SProp, ent}
use prog.Memory.{Memory}
use prog.Routine.{Routine}
use types.Logic.{Logic}
use contract.Lifetimes.{Lfts}
use Rattle.std.specs.Prelude.{Result}
use contract.Monad.{Fun, fact, fact_mono}
use lib.ListN.{drop}
use Rattle.rules.specs.Numbers.Answer.{verdict_number}
use Rattle.rules.specs.Books.Book.{found_at, Checked, checked_with, checked_of}
use Rattle.rules.specs.declared.answer.Fault.{Fault}
use Rattle.rules.specs.declared.answer.Opened.{Opened}
use Rattle.rules.specs.declared.answer.Found.{Found}
use Rattle.rules.proofs.Books.Passes.{check_passes}
use Rattle.book.specs.Reader.{ReadAt}
use Rattle.book.specs.declared.reader.Reader.{Reader}
use Rattle.book.proofs.EventWalk.{walks}
use Rattle.book.proofs.check.Reads as check
use Rattle.book.proofs.reader.read.Reads as read
use Rattle.book.proofs.reader.read_in.Reads as read-in
use Rattle.book.specs.contracts.reader.next as next
use Rattle.promises.proofs.Passed.{number_is, body_is}

-- what stands at place k of the event body of an accepted book
module _ (b : List ℕ) (room : ℕ) (c : Checked) (h : c ≡ checked_of b room) (e : verdict_number c.verdict ≡ 0) where
  pub found_at_lem : (body : List ℕ) (k : ℕ) (r : Found) → body ≡ drop c.events b → r ≡ found_at body k → ReadAt b k r
  found_at_lem body k r same f =
      subst (ReadAt b k) (sym (f ∙ ap (λ x. found_at x k) (same ∙ body_is b room c h e))) (walks b room (check_passes b room (number_is b room c h e)) k)

module _ (κs : Lfts 1) (a : _) (b : _) (r : Result Opened Fault) (h : check.Post κs a r b) (e : verdict_number (checked_with r).verdict ≡ 0) where
  abbrev c : Checked
  c = checked_with r

  -- of the body, which starts where the check says
  pub read_finds : (κs' : Lfts 1) (lent : _) (left : _) (f : Found) → read.Post κs' lent f left → lent.0.now ≡ drop c.events a.0.now
      → ReadAt a.0.now lent.1.0 f
  read_finds κs' lent left f q same = found_at_lem a.0.now a.1.0 c h e lent.0.now lent.1.0 f same q

  -- of the whole book and the start of its body
  pub read_in_finds : (κs' : Lfts 1) (lent : _) (left : _) (f : Found) → read-in.Post κs' lent f left → lent.0.now ≡ a.0.now → lent.1.0 ≡ c.events
      → ReadAt a.0.now lent.1.1.0 f
  read_in_finds κs' lent left f q same start =
      found_at_lem a.0.now a.1.0 c h e (drop lent.1.0 lent.0.now) lent.1.1.0 f (λ i. drop (start i) (same i)) q

  -- of a reader that holds the body, by what the clause of `next` says
  pub next_finds : {M : Type 1} {𝓤 : Ura M} (𝓛 : Logic 𝓤) (mem : Memory → SProp 𝓤) (run : Routine → Fun 𝓤) (κs' : Lfts 1) (reader : Reader)
      (left : _) (f : Found) → reader.body.now ≡ drop c.events a.0.now
      → ent 𝓤 ((next.clauses 𝓛 mem run κs' (reader, tt)).ensures tt f left) (fact 𝓤 (ReadAt a.0.now reader.place f))
  next_finds {𝓤 = 𝓤} 𝓛 mem run κs' reader left f same =
      fact_mono 𝓤 (f ≡ found_at reader.body.now reader.place) (ReadAt a.0.now reader.place f)
      (found_at_lem a.0.now a.1.0 c h e reader.body.now reader.place f same)
