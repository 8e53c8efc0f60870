-- Demand 1, said of what the code answers, by the contracts that its callers read. Assumes nothing.
use mathlib.Core.Path.{sym, subst}
use contract.Lifetimes.{Lfts}
use Prim.Native.Nat.{ℕ}
use Rattle.std.specs.Prelude.{Result}
use Rattle.rules.specs.Books.Write.{Wrote, wrote_with}
use Rattle.rules.specs.Replays.Run.{Ran}
use Rattle.rules.specs.Replays.Replay.{ran_as}
use Rattle.rules.specs.Demands.Demand1.{StepRefuses, LoadRefuses, BookRefuses, ReplayRefuses, WriteRefuses}
use Rattle.rules.specs.declared.plan.Plan.{Plan}
use Rattle.rules.specs.declared.protocol.Protocol.{Protocol}
use Rattle.rules.specs.declared.state.State.{State}
use Rattle.rules.specs.declared.event.Event.{Event}
use Rattle.rules.specs.declared.answer.Stepped.{Stepped}
use Rattle.rules.specs.Books.Load.{loaded_with}
use Rattle.rules.specs.Books.Book.{checked_with}
use Rattle.rules.specs.declared.answer.Replayed.{Replayed}
use Rattle.rules.specs.declared.answer.Fault.{Fault}
use Rattle.rules.specs.declared.answer.Opened.{Opened}
use Rattle.rules.proofs.Demands.Demand1.{demand1}
use Rattle.plan.proofs.load.Reads as load
use Rattle.book.proofs.check.Reads as check
use Rattle.book.proofs.writer.write.Reads as write
use Rattle.scheduler.proofs.step.Reads as step
use Rattle.scheduler.proofs.replay.Reads as replay

-- any plan, any state, any event
pub step_refuses : (pr : Protocol) (p : Plan) (s : State) (e : Event) (r : Stepped) → step.Post tt (pr, (p, (s, (e, tt)))) r (pr, (p, (s, (e, tt))))
    → StepRefuses pr p s e r
step_refuses pr p s e r h = subst (StepRefuses pr p s e) (sym h) (demand1.step pr p s e)

-- any records
pub load_refuses : (κs : Lfts 3) (a : _) (b : _) (r : Result Plan Fault) → load.Post κs a r b → LoadRefuses a.0.now a.1.0.now a.1.1.0.now (loaded_with r)
load_refuses κs a b r h = subst (LoadRefuses a.0.now a.1.0.now a.1.1.0.now) (sym h)
    (demand1.load a.0.now a.1.0.now a.1.1.0.now)

-- any bytes, with any row space
pub check_refuses : (κs : Lfts 1) (a : _) (b : _) (r : Result Opened Fault) → check.Post κs a r b → BookRefuses a.0.now a.1.0 (checked_with r)
check_refuses κs a b r h = subst (BookRefuses a.0.now a.1.0) (sym h) (demand1.check a.0.now a.1.0)

-- and the rows of a book that is refused: every byte stays
pub replay_refuses : (κs : Lfts 2) (a : _) (b : _) (r : Replayed) → replay.Post κs a r b
    → ReplayRefuses a.1.0.now a.1.1.0.now (ran_as r b.1.1.0.now)
replay_refuses κs a b r h = subst (λ (x : Ran). ReplayRefuses a.1.0.now a.1.1.0.now x) (sym h.0)
    (demand1.replay a.0 a.1.0.now a.1.1.0.now)

-- any records, with any buffer: every byte of it stays
pub write_refuses : (κs : Lfts 5) (a : _) (b : _) (r : Result ℕ Fault) → write.Post κs a r b
    → WriteRefuses a.0.now a.1.0.now a.1.1.0.now a.1.1.1.0.now a.1.1.1.1.0.now (wrote_with r b.1.1.1.1.0.now)
write_refuses κs a b r h =
    subst (λ (w : Wrote). WriteRefuses a.0.now a.1.0.now a.1.1.0.now a.1.1.1.0.now a.1.1.1.1.0.now w) (sym h)
    (demand1.write a.0.now a.1.0.now a.1.1.0.now a.1.1.1.0.now a.1.1.1.1.0.now)
