-- What a host in another language is answered is what the library's own functions answer, in numbers; so whatever is promised of these holds for the host.
-- Assumes nothing.
use mathlib.Core.Path.{◌≡◌, refl, sym, ◌∙◌, ap}
use mathlib.Core.Bool.{true, false}
use Prim.Native.Nat.{ℕ}
use contract.Lifetimes.{Lfts}
use Rattle.std.specs.Prelude.{Result}
use lib.ListN.{length}
use Rattle.rules.specs.Books.Event.{event_of}
use Rattle.rules.specs.Books.Write.{Wrote, wrote_with}
use Rattle.rules.specs.Books.Book.{checked_of}
use Rattle.rules.specs.Schedulers.Protocol.{protocol_named}
use Rattle.rules.specs.Replays.Run.{Ran}
use Rattle.rules.specs.Replays.Replay.{ran_as, replay_of}
use Rattle.rules.specs.declared.plan.Plan.{Plan}
use Rattle.rules.specs.declared.state.State.{State}
use Rattle.rules.specs.Books.Book.{checked_with}
use Rattle.rules.specs.declared.answer.Stepped.{Stepped}
use Rattle.rules.specs.declared.answer.Replayed.{Replayed}
use Rattle.rules.specs.declared.answer.Fault.{Fault}
use Rattle.rules.specs.declared.answer.Opened.{Opened}
use Rattle.rules.proofs.Books.Told.{wrote_bytes}
use Rattle.device.specs.Device.{check_spelled, write_spelled, job_spelled, replay_spelled, step_spelled, no_event, not_stepped}
use Rattle.device.specs.declared.check.DeviceCheck.{DeviceCheck}
use Rattle.device.specs.declared.replay.DeviceReplay.{DeviceReplay}
use Rattle.device.specs.declared.step.DeviceStep.{DeviceStep}
use Rattle.device.specs.declared.write.DeviceWrite.{DeviceWrite}
use Rattle.device.specs.declared.job.DeviceJob.{DeviceJob}
use Rattle.jobs.specs.Job.{ReadInto, job_with}
use Rattle.jobs.proofs.read_job.Reads as read-job
use Rattle.book.proofs.check.Reads as check
use Rattle.book.proofs.writer.write.Reads as write
use Rattle.scheduler.proofs.step.Reads as step
use Rattle.scheduler.proofs.replay.Reads as replay
use Rattle.device.proofs.check.recorder_check.Reads as recorder-check
use Rattle.device.proofs.replay.recorder_replay.Reads as recorder-replay
use Rattle.device.proofs.step.recorder_step.Reads as recorder-step
use Rattle.device.proofs.write.recorder_write.Reads as recorder-write
use Rattle.device.proofs.job.recorder_read_job.Reads as recorder-read-job

pub check_for_host : (κs : Lfts 1) (a : _) (b c : _) (r : DeviceCheck) (q : Result Opened Fault) → recorder-check.Post κs a r b → check.Post κs a q c
    → r ≡ check_spelled (checked_with q)
check_for_host κs a b c r q h k = h ∙ ap check_spelled (sym k)

-- the number that the host names stands for the protocol
pub replay_for_host : (κs : Lfts 2) (a : _) (b : _) (r : DeviceReplay) (c : _) (d : _) (q : Replayed) → recorder-replay.Post κs a r b → replay.Post κs c q d
    → c.0 ≡ protocol_named a.0 → c.1.0.now ≡ a.1.0.now → c.1.1.0.now ≡ a.1.1.0.now
    → (r ≡ replay_spelled q.verdict q.plan q.state) × (b.1.1.0.now ≡ d.1.1.0.now)
replay_for_host κs a b r c d q h k by book rows =
    let ran : ran_as q d.1.1.0.now ≡ replay_of (protocol_named a.0) a.1.0.now a.1.1.0.now =
    k.0 ∙ (λ i. replay_of (by i) (book i) (rows i)) in
    let plan : q.plan ≡ (checked_of a.1.0.now (length a.1.1.0.now)).plan = k.1 ∙ (λ i. (checked_of (book i) (length (rows i))).plan) in (
      h.0 ∙ (λ i. let out : Ran = sym ran i in replay_spelled out.verdict (sym plan i) out.state),
      h.1 ∙ ap (λ (out : Ran). out.rows) (sym ran),
    )

pub write_for_host : (κs : Lfts 5) (a : _) (b c : _) (r : DeviceWrite) (q : Result ℕ Fault) → recorder-write.Post κs a r b → write.Post κs a q c
    → (r ≡ write_spelled (wrote_with q c.1.1.1.1.0.now)) × (b.1.1.1.1.0.now ≡ c.1.1.1.1.0.now)
write_for_host κs a b c r q h k = (h.0 ∙ ap write_spelled (sym k), h.1 ∙ ap (λ (w : Wrote). w.bytes) (sym k) ∙ wrote_bytes q c.1.1.1.1.0.now)

pub job_for_host : (κs : Lfts 2) (a : _) (b c : _) (r : DeviceJob) (q : Result ℕ Fault) → recorder-read-job.Post κs a r b → read-job.Post κs a q c
    → (r ≡ job_spelled (job_with q)) × (b.1.0.now ≡ c.1.0.now)
job_for_host κs a b c r q h k = (h.0 ∙ ap (λ (x : ReadInto). job_spelled x.answer) (sym k), h.1 ∙ ap (λ (x : ReadInto). x.space) (sym k))

module _ (number : ℕ) (p : Plan) (s : State) (kind id amount : ℕ) (r : DeviceStep)
    (h : recorder-step.Post tt (number, (p, (s, (kind, (id, (amount, tt)))))) r (number, (p, (s, (kind, (id, (amount, tt))))))) where
  -- numbers that are an event's
  pub step_for_host : (q : Stepped) → no_event kind id amount ≡ false
      → step.Post tt (protocol_named number, (p, (s, (event_of kind id amount, tt)))) q (protocol_named number, (p, (s, (event_of kind id amount, tt))))
      → r ≡ step_spelled q
  step_for_host q e k = h ∙ rw e (ap step_spelled (sym k))

  -- and others, which are refused with 8 and leave the state
  pub no_step_for_host : no_event kind id amount ≡ true → r ≡ not_stepped s
  no_step_for_host e = h ∙ rw e refl
