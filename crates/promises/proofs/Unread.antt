-- The contracts that the prover does not read as plain claims, since their functions hold a reference in a struct or walk a table of structs: what their
-- clauses say, as one fact, and that two results of which it holds are equal. Assumes nothing.
use mathlib.Core.Path.{◌≡◌, refl, sym, ◌∙◌}
use seplogic.Ra.Ura.{Ura}
use base.Logic.{SProp, ent, sep}
use prog.Memory.{Memory}
use prog.Routine.{Routine}
use types.Logic.{Logic}
use contract.Lifetimes.{Lfts}
use Rattle.std.specs.Prelude.{Result}
use contract.Monad.{Fun, fact, fact_mono}
use denote.Triple.Walked.{needs}
use Rattle.rules.specs.Books.Book.{found_at}
use Rattle.rules.specs.Books.Load.{load_of, loaded_with}
use Rattle.rules.specs.declared.answer.Found.{Found}
use Rattle.rules.specs.declared.plan.Plan.{Plan}
use Rattle.rules.specs.declared.answer.Fault.{Fault}
use Rattle.rules.proofs.Books.Told.{loaded_same}
use Rattle.book.specs.Reader.{reader_at}
use Rattle.book.specs.declared.reader.Reader.{Reader}
use Rattle.device.specs.Table.{numbers_of}
use Rattle.device.specs.Device.{load_spelled}
use Rattle.device.specs.declared.load.DeviceLoad.{DeviceLoad}
use Rattle.book.specs.contracts.reader.next as next
use Rattle.book.specs.contracts.reader.moved as moved
use Rattle.device.specs.contracts.table.load_table as load-table
use Rattle.device.specs.contracts.load.recorder_load_table as recorder-load-table

-- where one of two facts stands beside the other, what follows from both holds
both : {M : Type 1} (𝓤 : Ura M) (φ ψ χ : Type 0) → (φ → ψ → χ) → ent 𝓤 (sep 𝓤 (fact 𝓤 φ) (fact 𝓤 ψ)) (fact 𝓤 χ)
both 𝓤 φ ψ χ f = needs 𝓤 ψ (fact 𝓤 φ) (λ y. fact_mono 𝓤 φ χ (λ x. f x y))

module _ {M : Type 1} {𝓤 : Ura M} (𝓛 : Logic 𝓤) (mem : Memory → SProp 𝓤) (run : Routine → Fun 𝓤) where
  -- ---- the reader of a lent book

  pub next_says : (κs : Lfts 1) (a : _) (r : Found) (e : _)
      → (next.clauses 𝓛 mem run κs a).ensures tt r e ≡ fact 𝓤 (r ≡ found_at a.0.body.now a.0.place)
  next_says κs a r e = refl

  pub one_next : (κs : Lfts 1) (a : _) (r q : Found) (e f : _)
      → ent 𝓤 (sep 𝓤 ((next.clauses 𝓛 mem run κs a).ensures tt r e) ((next.clauses 𝓛 mem run κs a).ensures tt q f)) (fact 𝓤 (r ≡ q))
  one_next κs a r q e f = both 𝓤 _ _ (r ≡ q) (λ h k. h ∙ sym k)

  pub moved_says : (κs : Lfts 1) (a : _) (r : Reader) (e : _)
      → (moved.clauses 𝓛 mem run κs a).ensures tt r e ≡ fact 𝓤 (r ≡ reader_at a.0 a.1.0)
  moved_says κs a r e = refl

  pub one_moved : (κs : Lfts 1) (a : _) (r q : Reader) (e f : _)
      → ent 𝓤 (sep 𝓤 ((moved.clauses 𝓛 mem run κs a).ensures tt r e) ((moved.clauses 𝓛 mem run κs a).ensures tt q f)) (fact 𝓤 (r ≡ q))
  one_moved κs a r q e f = both 𝓤 _ _ (r ≡ q) (λ h k. h ∙ sym k)

  -- ---- the load of a lent table of task records

  pub load_table_says : (κs : Lfts 3) (a : _) (r : Result Plan Fault) (e : _)
      → (load-table.clauses 𝓛 mem run κs a).ensures tt r e ≡ fact 𝓤 (loaded_with r ≡ load_of (numbers_of a.0.now) a.1.0.now a.1.1.0.now)
  load_table_says κs a r e = refl

  pub one_load_table : (κs : Lfts 3) (a : _) (r q : Result Plan Fault) (e f : _)
      → ent 𝓤 (sep 𝓤 ((load-table.clauses 𝓛 mem run κs a).ensures tt r e) ((load-table.clauses 𝓛 mem run κs a).ensures tt q f)) (fact 𝓤 (r ≡ q))
  one_load_table κs a r q e f = both 𝓤 _ _ (r ≡ q) (λ h k. loaded_same r q (h ∙ sym k))

  pub recorder_load_table_says : (κs : Lfts 3) (a : _) (r : DeviceLoad) (e : _)
      → (recorder-load-table.clauses 𝓛 mem run κs a).ensures tt r e
      ≡ fact 𝓤 (r ≡ load_spelled (load_of (numbers_of a.0.now) a.1.0.now a.1.1.0.now))
  recorder_load_table_says κs a r e = refl

  pub one_recorder_load_table : (κs : Lfts 3) (a : _) (r q : DeviceLoad) (e f : _)
      → ent 𝓤 (sep 𝓤 ((recorder-load-table.clauses 𝓛 mem run κs a).ensures tt r e) ((recorder-load-table.clauses 𝓛 mem run κs a).ensures tt q f))
      (fact 𝓤 (r ≡ q))
  one_recorder_load_table κs a r q e f = both 𝓤 _ _ (r ≡ q) (λ h k. h ∙ sym k)
