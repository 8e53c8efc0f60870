-- A load, a check and a writing in memory come to one answer of the code: two answers that come to the same are equal. Assumes nothing.
use Rattle.std.specs.Prelude.{Result, Ok, Err}
use mathlib.Core.Path.{◌≡◌, refl, sym, ap}
use mathlib.Core.List.{List}
use Prim.Native.Nat.{ℕ}
use native.Mathlib.Omega.{arith}
use Rattle.rules.specs.Numbers.Verdict.{Verdict}
use Rattle.rules.specs.Books.Load.{Loaded, loaded_with}
use Rattle.rules.specs.Books.Book.{Checked, checked_with}
use Rattle.rules.specs.Books.Write.{Wrote, wrote_with}
use Rattle.rules.specs.declared.plan.Plan.{Plan}
use Rattle.rules.specs.declared.answer.Fault.{Fault}
use Rattle.rules.specs.declared.answer.Opened.{Opened}

-- what is passed is not refused, and two refusals are equal where their faults are
pub apart : {P : Type 0} (f : Fault) → ◌≡◌ {A = Verdict} (Ok tt) (Err f) → P
apart f e = let z : ◌≡◌ {A = ℕ} 0 1 = cc in absurd (omega arith)

pub fault_same : (f g : Fault) → ◌≡◌ {A = Verdict} (Err f) (Err g) → f ≡ g
fault_same f g e = cc

pub loaded_same : (r q : Result Plan Fault) → loaded_with r ≡ loaded_with q → r ≡ q
unfolding loaded_with
loaded_same (Ok p) (Ok q) e = ap (λ (l : Loaded). Ok l.plan) e
loaded_same (Ok p) (Err g) e = apart g (ap (λ (l : Loaded). l.verdict) e)
loaded_same (Err f) (Ok q) e = apart f (sym (ap (λ (l : Loaded). l.verdict) e))
loaded_same (Err f) (Err g) e = ap (λ (h : Fault). Err h) (fault_same f g (ap (λ (l : Loaded). l.verdict) e))

pub checked_same : (r q : Result Opened Fault) → checked_with r ≡ checked_with q → r ≡ q
unfolding checked_with
checked_same (Ok o) (Ok q) e = ap (λ (c : Checked). Ok (record { plan = c.plan; events = c.events })) e
checked_same (Ok o) (Err g) e = apart g (ap (λ (c : Checked). c.verdict) e)
checked_same (Err f) (Ok q) e = apart f (sym (ap (λ (c : Checked). c.verdict) e))
checked_same (Err f) (Err g) e = ap (λ (h : Fault). Err h) (fault_same f g (ap (λ (c : Checked). c.verdict) e))

pub wrote_same : (r q : Result ℕ Fault) (x y : List ℕ) → wrote_with r x ≡ wrote_with q y → (r ≡ q) × (x ≡ y)
unfolding wrote_with
wrote_same (Ok n) (Ok m) x y e = (ap (λ (w : Wrote). Ok w.length) e, ap (λ (w : Wrote). w.bytes) e)
wrote_same (Ok n) (Err g) x y e = apart g (ap (λ (w : Wrote). w.verdict) e)
wrote_same (Err f) (Ok m) x y e = apart f (sym (ap (λ (w : Wrote). w.verdict) e))
wrote_same (Err f) (Err g) x y e = (ap (λ (h : Fault). Err h) (fault_same f g (ap (λ (w : Wrote). w.verdict) e)), ap (λ (w : Wrote). w.bytes) e)

-- the bytes beside an answer of the writer are those that it leaves
pub wrote_bytes : (r : Result ℕ Fault) (x : List ℕ) → (wrote_with r x).bytes ≡ x
unfolding wrote_with
wrote_bytes (Ok n) x = refl
wrote_bytes (Err f) x = refl
