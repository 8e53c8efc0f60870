-- A plan that a load or a check of the code gives, or that `obeys` accepts, obeys the rules; so two different tasks may take each of its locks, and no lock is
-- above the maximum of a task that may take it. Assumes nothing.
use mathlib.Core.Path.{◌≡◌, sym, ◌∙◌, subst}
use mathlib.Core.Bool.{true}
use mathlib.Core.List.{List}
use Prim.Native.Nat.{ℕ, ◌≤◌, ◌<◌}
use contract.Lifetimes.{Lfts}
use Rattle.std.specs.Prelude.{Result}
use Rattle.rules.specs.Numbers.Answer.{verdict_number}
use Rattle.rules.specs.Numbers.Place.{at}
use Rattle.rules.specs.Books.Plan.{declares, Shared, Obeys}
use Rattle.rules.specs.Books.Load.{load_of, loaded_with}
use Rattle.rules.specs.declared.plan.Plan.{Plan}
use Rattle.rules.specs.Books.Book.{Checked, checked_with}
use Rattle.rules.specs.declared.answer.Fault.{Fault}
use Rattle.rules.specs.declared.answer.Opened.{Opened}
use Rattle.rules.specs.Books.Load.{Loaded}
use Rattle.device.specs.Table.{numbers_of}
use Rattle.device.specs.Device.{load_spelled}
use Rattle.device.specs.declared.table.TaskRecord.{TaskRecord}
use Rattle.device.specs.declared.check.DeviceCheck.{DeviceCheck}
use Rattle.device.specs.declared.load.DeviceLoad.{DeviceLoad}
use Rattle.rules.proofs.Soundness.SoundTest.{obeys_so}
use Rattle.rules.proofs.Books.Obeyed.{ceiling_maximum}
use Rattle.rules.proofs.Demands.Demand1.{demand1}
use Rattle.plan.proofs.load.Reads as load
use Rattle.plan.proofs.obeys.Reads as obeys
use Rattle.book.proofs.check.Reads as check
use Rattle.device.proofs.check.recorder_check.Reads as recorder-check

pub load_obeys : (κs : Lfts 3) (a : _) (b : _) (r : Result Plan Fault) → load.Post κs a r b → verdict_number (loaded_with r).verdict ≡ 0 → Obeys (loaded_with r).plan
load_obeys κs a b r h = subst (λ (l : Loaded). verdict_number l.verdict ≡ 0 → Obeys l.plan) (sym h)
    (demand1.load a.0.now a.1.0.now a.1.1.0.now).obeys

pub check_obeys : (κs : Lfts 1) (a : _) (b : _) (r : Result Opened Fault) → check.Post κs a r b → verdict_number (checked_with r).verdict ≡ 0 → Obeys (checked_with r).plan
check_obeys κs a b r h = subst (λ (c : Checked). verdict_number c.verdict ≡ 0 → Obeys c.plan) (sym h) (demand1.check a.0.now a.1.0).obeys

pub obeys_obeys : (p : Plan) (r : _) → obeys.Post tt (p, tt) r (p, tt) → r ≡ true → Obeys p
obeys_obeys p r h e = obeys_so p (sym h ∙ e)

-- what `load_table` answers, as its contract says (`load_table_says`), and what a host is answered
pub table_obeys : (ts : List TaskRecord) (locks uses : List ℕ) (r : Loaded) → r ≡ load_of (numbers_of ts) locks uses → verdict_number r.verdict ≡ 0
    → Obeys r.plan
table_obeys ts locks uses r h = subst (λ (l : Loaded). verdict_number l.verdict ≡ 0 → Obeys l.plan) (sym h)
    (demand1.load (numbers_of ts) locks uses).obeys

pub recorder_table_obeys : (ts : List TaskRecord) (locks uses : List ℕ) (r : DeviceLoad) → r ≡ load_spelled (load_of (numbers_of ts) locks uses) → r.number ≡ 0
    → Obeys r.plan
recorder_table_obeys ts locks uses r h = subst (λ (l : DeviceLoad). l.number ≡ 0 → Obeys l.plan) (sym h) (demand1.load (numbers_of ts) locks uses).obeys

pub recorder_check_obeys : (κs : Lfts 1) (a : _) (b : _) (r : DeviceCheck) → recorder-check.Post κs a r b → r.number ≡ 0 → Obeys r.plan
recorder_check_obeys κs a b r h = subst (λ (c : DeviceCheck). c.number ≡ 0 → Obeys c.plan) (sym h) (demand1.check a.0.now a.1.0).obeys

-- each lock of such a plan is shared
pub obeying_shares : (p : Plan) → Obeys p → (l : ℕ) → l < p.locks → Shared p l
obeying_shares p O l h = ((demand1.seven p l).0 (O.ceilings l h)).0

-- and its ceiling is at most the maximum of each task that may take it
pub obeying_below : (p : Plan) → Obeys p → (t l : ℕ) → t < p.tasks → l < p.locks → declares p t l ≡ true → at p.ceiling l ≤ at p.maximum t
obeying_below p O = ceiling_maximum O
