-- Of every function that another crate or a host in another language can call: any two results that its contract allows for the same arguments are equal.
-- a are the arguments, b and c what is lent as it was left. Those that change a lent tournament ask that it is one. Assumes nothing.
use mathlib.Core.Path.{◌≡◌, sym, ◌∙◌, ap, ap₂}
use mathlib.Core.Bool.{Bool}
use mathlib.Core.List.{List, []}
use Prim.Native.Nat.{ℕ, ◌≤◌}
use contract.Lifetimes.{Lfts}
use Rattle.std.specs.Prelude.{Result}
use Rattle.rules.specs.Numbers.Capacity.{max_tasks}
use Rattle.rules.specs.Numbers.Verdict.{Answer}
use Rattle.rules.specs.Replays.Run.{Ran}
use Rattle.rules.specs.Replays.Replay.{ran_as}
use Rattle.rules.specs.declared.plan.Plan.{Plan}
use Rattle.rules.specs.declared.protocol.Protocol.{Protocol}
use Rattle.rules.specs.declared.state.State.{State}
use Rattle.rules.specs.declared.event.Event.{Event}
use Rattle.rules.specs.declared.priority.KernelPriority.{KernelPriority}
use Rattle.rules.specs.declared.priority.UserPriority.{UserPriority}
use Rattle.rules.specs.declared.answer.Found.{Found}
use Rattle.rules.specs.declared.answer.Stepped.{Stepped}
use Rattle.rules.specs.declared.answer.Replayed.{Replayed}
use Rattle.rules.specs.declared.answer.Fault.{Fault}
use Rattle.rules.specs.declared.answer.Opened.{Opened}
use Rattle.rules.proofs.Books.Told.{loaded_same, checked_same, wrote_same}
use Rattle.device.specs.declared.check.DeviceCheck.{DeviceCheck}
use Rattle.device.specs.declared.load.DeviceLoad.{DeviceLoad}
use Rattle.device.specs.declared.step.DeviceStep.{DeviceStep}
use Rattle.device.specs.declared.replay.DeviceReplay.{DeviceReplay}
use Rattle.device.specs.declared.write.DeviceWrite.{DeviceWrite}
use Rattle.device.specs.declared.job.DeviceJob.{DeviceJob}
use Rattle.tournament.specs.Tree.{tree_of}
use Rattle.tournament.specs.Keys.{tournament_of}
use Rattle.tournament.specs.declared.tree.Tournament.{Tournament}
use Rattle.scheduler.proofs.replay.Reads as replay
use Rattle.report.proofs.report.Reads as report
use Rattle.book.proofs.writer.write.Reads as write
use Rattle.device.proofs.write.recorder_write.Reads as recorder-write
use Rattle.device.proofs.job.recorder_read_job.Reads as recorder-read-job
use Rattle.device.proofs.replay.recorder_replay.Reads as recorder-replay
use Rattle.kernel.proofs.act.act.Reads as act
use Rattle.rules.proofs.refusal.U8FromRefusal.from.Reads as number
use Rattle.rules.proofs.protocol.U8FromProtocol.from.Reads as protocol-number
use Rattle.rules.proofs.protocol.ProtocolFromU8.from.Reads as named
use Rattle.rules.proofs.answer.verdict_number.Reads as verdict-number
use Rattle.rules.proofs.answer.verdict_place.Reads as verdict-place
use Rattle.rules.proofs.answer.answer_number.Reads as answer-number
use Rattle.rules.proofs.answer.answer_calls.Reads as answer-calls
use Rattle.rules.proofs.plan.blank.Reads as blank
use Rattle.rules.proofs.state.fresh.Reads as fresh
use Rattle.figures.proofs.mask.has_bit.Reads as has-bit
use Rattle.figures.proofs.mask.with_bit.Reads as with-bit
use Rattle.figures.proofs.priority.kernel_of.Reads as kernel-of
use Rattle.figures.proofs.priority.kernel_byte.Reads as kernel-byte
use Rattle.figures.proofs.priority.user_of.Reads as user-of
use Rattle.figures.proofs.priority.user_byte.Reads as user_byte
use Rattle.figures.proofs.priority.shown.Reads as shown
use Rattle.figures.proofs.priority.recorded.Reads as recorded
use Rattle.figures.proofs.priority.above.Reads as above
use Rattle.figures.proofs.priority.at_most.Reads as at_most
use Rattle.figures.proofs.priority.calls_for.Reads as calls-for
use Rattle.figures.proofs.priority.cut_to.Reads as cut-to
use Rattle.figures.proofs.row.newest_of.Reads as newest-of
use Rattle.figures.proofs.row.under_of.Reads as under_of
use Rattle.figures.proofs.row.push_on.Reads as push-on
use Rattle.figures.proofs.row.has_lock.Reads as has-lock
use Rattle.figures.proofs.row.newest_word.Reads as newest-word
use Rattle.figures.proofs.row.push_word.Reads as push-word
use Rattle.figures.proofs.spare.spare.Reads as spare
use Rattle.tournament.proofs.tree.Tournament.of.Reads as tournament-of
use Rattle.tournament.proofs.tree.Tournament.top.Reads as top
use Rattle.tournament.proofs.tree.Tournament.put.Reads as tournament-put
use Rattle.tournament.proofs.tree.put.Reads as put
use Rattle.tournament.proofs.keys.key_of.Reads as key_of
use Rattle.tournament.proofs.keys.who_of.Reads as who-of
use Rattle.tournament.proofs.keys.word_of.Reads as word_of
use Rattle.plan.proofs.count.count_fault.Reads as count-fault
use Rattle.plan.proofs.load.Reads as load
use Rattle.plan.proofs.bound.Reads as bound
use Rattle.plan.proofs.obeys.Reads as obeys
use Rattle.book.proofs.check.Reads as check
use Rattle.book.proofs.record.event_fault.Reads as event-fault
use Rattle.book.proofs.record.event_of.Reads as event_of_lem
use Rattle.book.proofs.cursor.cursor.Reads as cursor
use Rattle.book.proofs.reader.read.Reads as read
use Rattle.book.proofs.reader.read_in.Reads as read-in
use Rattle.sound.proofs.sound.Reads as sound
use Rattle.scheduler.proofs.step.Reads as step
use Rattle.device.proofs.check.DeviceCheckFromResultOpenedFault.from.Reads as device-check
use Rattle.device.proofs.load.DeviceLoadFromResultPlanFault.from.Reads as device-load
use Rattle.device.proofs.write.DeviceWriteFromResultUsizeFault.from.Reads as device-write
use Rattle.device.proofs.job.DeviceJobFromResultUsizeFault.from.Reads as device-job
use Rattle.device.proofs.check.recorder_check.Reads as recorder-check
use Rattle.device.proofs.bound.recorder_bound.Reads as recorder-bound
use Rattle.device.proofs.step.recorder_fresh.Reads as recorder-fresh
use Rattle.device.proofs.step.recorder_step.Reads as recorder-step

-- priorities of one kind are equal where their numbers are
same_kernel : (r q : KernelPriority) → r.0 ≡ q.0 → r ≡ q
same_kernel r q e = λ i. record { 0 = e i }

same_user : (r q : UserPriority) → r.0 ≡ q.0 → r ≡ q
same_user r q e = λ i. record { 0 = e i }

-- ---- the refusals, the answers and the states of `rules`

pub one_number : (a : _) (b c : _) (r q : ℕ) → number.Post tt a r b → number.Post tt a q c → r ≡ q
one_number a b c r q h k = h ∙ sym k

pub one_protocol_number : (a : _) (b c : _) (r q : ℕ) → protocol-number.Post tt a r b → protocol-number.Post tt a q c → r ≡ q
one_protocol_number a b c r q h k = h ∙ sym k

pub one_named : (a : _) (b c : _) (r q : Protocol) → named.Post tt a r b → named.Post tt a q c → r ≡ q
one_named a b c r q h k = h ∙ sym k

pub one_verdict_number : (a : _) (b c : _) (r q : ℕ) → verdict-number.Post tt a r b → verdict-number.Post tt a q c → r ≡ q
one_verdict_number a b c r q h k = h ∙ sym k

pub one_verdict_place : (a : _) (b c : _) (r q : ℕ) → verdict-place.Post tt a r b → verdict-place.Post tt a q c → r ≡ q
one_verdict_place a b c r q h k = h ∙ sym k

pub one_answer_number : (a : _) (b c : _) (r q : ℕ) → answer-number.Post tt a r b → answer-number.Post tt a q c → r ≡ q
one_answer_number a b c r q h k = h ∙ sym k

pub one_answer_calls : (a : _) (b c : _) (r q : ℕ) → answer-calls.Post tt a r b → answer-calls.Post tt a q c → r ≡ q
one_answer_calls a b c r q h k = h ∙ sym k

pub one_blank : (a : _) (b c : _) (r q : Plan) → blank.Post tt a r b → blank.Post tt a q c → r ≡ q
one_blank a b c r q h k = h ∙ sym k

pub one_fresh : (a : _) (b c : _) (r q : State) → fresh.Post tt a r b → fresh.Post tt a q c → r ≡ q
one_fresh a b c r q h k = h ∙ sym k

-- ---- the numbers of `figures`: sets of locks, the two kinds of priority, and rows

pub one_has_bit : (a : _) (b c : _) (r q : Bool) → has-bit.Post tt a r b → has-bit.Post tt a q c → r ≡ q
one_has_bit a b c r q h k = h ∙ sym k

pub one_with_bit : (a : _) (b c : _) (r q : ℕ) → with-bit.Post tt a r b → with-bit.Post tt a q c → r ≡ q
one_with_bit a b c r q h k = h ∙ sym k

pub one_kernel_of : (a : _) (b c : _) (r q : KernelPriority) → kernel-of.Post tt a r b → kernel-of.Post tt a q c → r ≡ q
one_kernel_of a b c r q h k = same_kernel r q (h ∙ sym k)

pub one_kernel_byte : (a : _) (b c : _) (r q : ℕ) → kernel-byte.Post tt a r b → kernel-byte.Post tt a q c → r ≡ q
one_kernel_byte a b c r q h k = h ∙ sym k

pub one_user_of : (a : _) (b c : _) (r q : UserPriority) → user-of.Post tt a r b → user-of.Post tt a q c → r ≡ q
one_user_of a b c r q h k = same_user r q (h ∙ sym k)

pub one_user_byte : (a : _) (b c : _) (r q : ℕ) → user_byte.Post tt a r b → user_byte.Post tt a q c → r ≡ q
one_user_byte a b c r q h k = h ∙ sym k

pub one_shown : (a : _) (b c : _) (r q : UserPriority) → shown.Post tt a r b → shown.Post tt a q c → r ≡ q
one_shown a b c r q h k = same_user r q (h ∙ sym k)

pub one_recorded : (a : _) (b c : _) (r q : KernelPriority) → recorded.Post tt a r b → recorded.Post tt a q c → r ≡ q
one_recorded a b c r q h k = same_kernel r q (h ∙ sym k)

pub one_above : (a : _) (b c : _) (r q : Bool) → above.Post tt a r b → above.Post tt a q c → r ≡ q
one_above a b c r q h k = h ∙ sym k

pub one_at_most : (a : _) (b c : _) (r q : Bool) → at_most.Post tt a r b → at_most.Post tt a q c → r ≡ q
one_at_most a b c r q h k = h ∙ sym k

pub one_calls_for : (a : _) (b c : _) (r q : Bool) → calls-for.Post tt a r b → calls-for.Post tt a q c → r ≡ q
one_calls_for a b c r q h k = h ∙ sym k

pub one_cut_to : (a : _) (b c : _) (r q : UserPriority) → cut-to.Post tt a r b → cut-to.Post tt a q c → r ≡ q
one_cut_to a b c r q h k = same_user r q (h ∙ sym k)

pub one_newest_of : (a : _) (b c : _) (r q : ℕ) → newest-of.Post tt a r b → newest-of.Post tt a q c → r ≡ q
one_newest_of a b c r q h k = h ∙ sym k

pub one_under_of : (a : _) (b c : _) (r q : ℕ) → under_of.Post tt a r b → under_of.Post tt a q c → r ≡ q
one_under_of a b c r q h k = h ∙ sym k

pub one_push_on : (a : _) (b c : _) (r q : ℕ) → push-on.Post tt a r b → push-on.Post tt a q c → r ≡ q
one_push_on a b c r q h k = h.0 ∙ sym k.0

pub one_has_lock : (a : _) (b c : _) (r q : Bool) → has-lock.Post tt a r b → has-lock.Post tt a q c → r ≡ q
one_has_lock a b c r q h k = h ∙ sym k

pub one_newest_word : (a : _) (b c : _) (r q : UserPriority) → newest-word.Post tt a r b → newest-word.Post tt a q c → r ≡ q
one_newest_word a b c r q h k = same_user r q (h ∙ sym k)

pub one_push_word : (a : _) (b c : _) (r q : ℕ) → push-word.Post tt a r b → push-word.Post tt a q c → r ≡ q
one_push_word a b c r q h k = h.0 ∙ sym k.0

-- of numbers of every width: T, and after it what the function asks of T
pub one_spare : (T t u v w x y z l m n o p κs : _) (a : _) (b c : _) (s k : Bool)
    → spare.Post T t u v w x y z l m n o p κs a s b → spare.Post T t u v w x y z l m n o p κs a k c → s ≡ k
one_spare T t u v w x y z l m n o p κs a b c s k h i = h ∙ sym i

-- ---- the plan

pub one_count_fault : (a : _) (b c : _) (r q : Bool) → count-fault.Post tt a r b → count-fault.Post tt a q c → r ≡ q
one_count_fault a b c r q h k = h ∙ sym k

pub one_load : (κs : Lfts 3) (a : _) (b c : _) (r q : Result Plan Fault) → load.Post κs a r b → load.Post κs a q c → r ≡ q
one_load κs a b c r q h k = loaded_same r q (h ∙ sym k)

pub one_bound : (a : _) (b c : _) (r q : ℕ) → bound.Post tt a r b → bound.Post tt a q c → r ≡ q
one_bound a b c r q h k = h ∙ sym k

pub one_obeys : (a : _) (b c : _) (r q : Bool) → obeys.Post tt a r b → obeys.Post tt a q c → r ≡ q
one_obeys a b c r q h k = h ∙ sym k

-- ---- the book and its reader

pub one_check : (κs : Lfts 1) (a : _) (b c : _) (r q : Result Opened Fault) → check.Post κs a r b → check.Post κs a q c → r ≡ q
one_check κs a b c r q h k = checked_same r q (h ∙ sym k)

pub one_event_fault : (a : _) (b c : _) (r q : Bool) → event-fault.Post tt a r b → event-fault.Post tt a q c → r ≡ q
one_event_fault a b c r q h k = h ∙ sym k

pub one_event_of : (a : _) (b c : _) (r q : Event) → event_of_lem.Post tt a r b → event_of_lem.Post tt a q c → r ≡ q
one_event_of a b c r q h k = h ∙ sym k

pub one_cursor : (κs : Lfts 1) (a : _) (b c : _) (r q : Found) → cursor.Post κs a r b → cursor.Post κs a q c → r ≡ q
one_cursor κs a b c r q h k = h ∙ sym k

pub one_read : (κs : Lfts 1) (a : _) (b c : _) (r q : Found) → read.Post κs a r b → read.Post κs a q c → r ≡ q
one_read κs a b c r q h k = h ∙ sym k

pub one_read_in : (κs : Lfts 1) (a : _) (b c : _) (r q : Found) → read-in.Post κs a r b → read-in.Post κs a q c → r ≡ q
one_read_in κs a b c r q h k = h ∙ sym k

-- ---- soundness and the step

pub one_sound : (a : _) (b c : _) (r q : Bool) → sound.Post tt a r b → sound.Post tt a q c → r ≡ q
one_sound a b c r q h k = h ∙ sym k

pub one_step : (a : _) (b c : _) (r q : Stepped) → step.Post tt a r b → step.Post tt a q c → r ≡ q
one_step a b c r q h k = h ∙ sym k

-- ---- what a host in another language calls, and how an answer is spelled for it

pub one_device_check : (a : _) (b c : _) (r q : DeviceCheck) → device-check.Post tt a r b → device-check.Post tt a q c → r ≡ q
one_device_check a b c r q h k = h ∙ sym k

pub one_device_load : (a : _) (b c : _) (r q : DeviceLoad) → device-load.Post tt a r b → device-load.Post tt a q c → r ≡ q
one_device_load a b c r q h k = h ∙ sym k

-- by any bytes beside the answer, and so by none
pub one_device_write : (a : _) (b c : _) (r q : DeviceWrite) → device-write.Post tt a r b → device-write.Post tt a q c → r ≡ q
one_device_write a b c r q h k = h [] ∙ sym (k [])

pub one_device_job : (a : _) (b c : _) (r q : DeviceJob) → device-job.Post tt a r b → device-job.Post tt a q c → r ≡ q
one_device_job a b c r q h k = h ∙ sym k

pub one_recorder_check : (κs : Lfts 1) (a : _) (b c : _) (r q : DeviceCheck) → recorder-check.Post κs a r b → recorder-check.Post κs a q c → r ≡ q
one_recorder_check κs a b c r q h k = h ∙ sym k

pub one_recorder_bound : (κs : Lfts 1) (a : _) (b c : _) (r q : ℕ) → recorder-bound.Post κs a r b → recorder-bound.Post κs a q c → r ≡ q
one_recorder_bound κs a b c r q h k = h ∙ sym k

pub one_recorder_fresh : (a : _) (b c : _) (r q : State) → recorder-fresh.Post tt a r b → recorder-fresh.Post tt a q c → r ≡ q
one_recorder_fresh a b c r q h k = h ∙ sym k

pub one_recorder_step : (a : _) (b c : _) (r q : DeviceStep) → recorder-step.Post tt a r b → recorder-step.Post tt a q c → r ≡ q
one_recorder_step a b c r q h k = h ∙ sym k

-- ---- what lends memory to be written: every byte that was lent is determined too

same_ran : (r q : Replayed) (x y : List ℕ) (ran : Ran) (p : Plan) → ran_as r x ≡ ran → ran_as q y ≡ ran → r.plan ≡ p → q.plan ≡ p → (r ≡ q) × (x ≡ y)
same_ran r q x y ran p h k u v =
    let e : ran_as r x ≡ ran_as q y = h ∙ sym k in
    let z : r.plan ≡ q.plan = u ∙ sym v in
    ((λ i. record { verdict = (e i).verdict; plan = z i; state = (e i).state }), ap (λ (w : Ran). w.rows) e)

pub one_replay : (κs : Lfts 2) (a : _) (b c : _) (r q : Replayed) → replay.Post κs a r b → replay.Post κs a q c
    → (r ≡ q) × (b.1.1.0.now ≡ c.1.1.0.now)
one_replay κs a b c r q h k = same_ran r q _ _ _ _ h.0 k.0 h.1 k.1

pub one_recorder_replay : (κs : Lfts 2) (a : _) (b c : _) (r q : DeviceReplay) → recorder-replay.Post κs a r b → recorder-replay.Post κs a q c
    → (r ≡ q) × (b.1.1.0.now ≡ c.1.1.0.now)
one_recorder_replay κs a b c r q h k = (h.0 ∙ sym k.0, h.1 ∙ sym k.1)

pub one_write : (κs : Lfts 5) (a : _) (b c : _) (r q : Result ℕ Fault) → write.Post κs a r b → write.Post κs a q c
    → (r ≡ q) × (b.1.1.1.1.0.now ≡ c.1.1.1.1.0.now)
one_write κs a b c r q h k = wrote_same r q _ _ (h ∙ sym k)

pub one_recorder_write : (κs : Lfts 5) (a : _) (b c : _) (r q : DeviceWrite) → recorder-write.Post κs a r b → recorder-write.Post κs a q c
    → (r ≡ q) × (b.1.1.1.1.0.now ≡ c.1.1.1.1.0.now)
one_recorder_write κs a b c r q h k = (h.0 ∙ sym k.0, h.1 ∙ sym k.1)

pub one_recorder_read_job : (κs : Lfts 2) (a : _) (b c : _) (r q : DeviceJob) → recorder-read-job.Post κs a r b → recorder-read-job.Post κs a q c
    → (r ≡ q) × (b.1.0.now ≡ c.1.0.now)
one_recorder_read_job κs a b c r q h k = (h.0 ∙ sym k.0, h.1 ∙ sym k.1)

pub one_report : (κs : Lfts 3) (a : _) (b c : _) (r q : ℕ) → report.Post κs a r b → report.Post κs a q c → (r ≡ q) × (b.0.now ≡ c.0.now)
one_report κs a b c r q h k = (h.1 ∙ sym k.1, h.0 ∙ sym k.0)

-- ---- the tournament

pub one_key_of : (a : _) (b c : _) (r q : ℕ) → key_of.Post tt a r b → key_of.Post tt a q c → r ≡ q
one_key_of a b c r q h k = h ∙ sym k

pub one_who_of : (a : _) (b c : _) (r q : ℕ) → who-of.Post tt a r b → who-of.Post tt a q c → r ≡ q
one_who_of a b c r q h k = h ∙ sym k

pub one_word_of : (a : _) (b c : _) (r q : ℕ) → word_of.Post tt a r b → word_of.Post tt a q c → r ≡ q
one_word_of a b c r q h k = h ∙ sym k

pub one_top : (κs : Lfts 1) (a : _) (b c : _) (r q : ℕ) → top.Post κs a r b → top.Post κs a q c → r ≡ q
one_top κs a b c r q h k = h ∙ sym k

pub one_put : (κs : Lfts 1) (a : _) (b c : _) (r q : ℕ) → put.Post κs a r b → put.Post κs a q c
    → (f : ℕ → ℕ) → a.1.0 ≤ max_tasks → a.0.now ≡ tree_of a.1.0 f
    → (r ≡ q) × (b.0.now ≡ c.0.now)
one_put κs a b c r q h k f few e = (h.1 f few e ∙ sym (k.1 f few e), h.0 f few e ∙ sym (k.0 f few e))

pub one_tournament_put : (κs : Lfts 1) (a : _) (b c : _) (r q : ℕ) → tournament-put.Post κs a r b → tournament-put.Post κs a q c
    → (f : ℕ → ℕ) → a.0.now.keys ≡ tree_of a.0.now.tasks f
    → (r ≡ q) × (b.0.now.tasks ≡ c.0.now.tasks) × (b.0.now.keys ≡ c.0.now.keys)
one_tournament_put κs a b c r q h k f e = (h.1.1 f e ∙ sym (k.1.1 f e), h.0 ∙ sym k.0, h.1.0 f e ∙ sym (k.1.0 f e))

pub one_tournament : (κs : Lfts 2) (a : _) (b c : _) (r q : Tournament) → tournament-of.Post κs a r b → tournament-of.Post κs a q c
    → (r.tasks ≡ q.tasks) × (r.keys ≡ q.keys)
one_tournament κs a b c r q h k = (h.0 ∙ sym k.0, h.1 ∙ sym k.1)

-- the answer and the state that the act was lent to change, put together as a step; and the tournament
pub one_act : (κs : Lfts 3) (a : _) (b c : _) (r q : Answer) → act.Post κs a r b → act.Post κs a q c
    → (◌≡◌ {A = Stepped} (record { answer = r; state = b.1.1.0.now }) (record { answer = q; state = c.1.1.0.now }))
    × (b.1.1.1.0.now.tasks ≡ c.1.1.1.0.now.tasks) × (b.1.1.1.0.now.keys ≡ c.1.1.1.0.now.keys)
one_act κs a b c r q h k = (
  h.0 ∙ sym k.0,
  h.1.tasks ∙ sym k.1.tasks,
  h.1.keys ∙ ap₂ (tournament_of a.1.0.now.tasks) (ap (λ (x : Stepped). x.state.released) (h.0 ∙ sym k.0))
      (ap (λ (x : Stepped). x.state.kept) (h.0 ∙ sym k.0)) ∙ sym k.1.keys,
)
