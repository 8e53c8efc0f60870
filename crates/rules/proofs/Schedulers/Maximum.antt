-- In a sound state no word is above the maximum of its task: not a priority, not the user word, and not the word that an unlock puts back. So an entry to the
-- kernel cuts nothing. Assumes nothing.
use mathlib.Core.Path.{◌≡◌, refl, ◌∙◌, ap}
use mathlib.Core.Bool.{Bool}
use mathlib.Core.Logic.{⊎_elim}
use Prim.Native.Nat.{ℕ, zero, suc, ◌≤◌, ◌<◌}
use native.Mathlib.Nat.{eq-zero-or-pos}
use native.Mathlib.Omega.{arith}
use Rattle.rules.specs.Numbers.Place.{at}
use Rattle.rules.specs.Numbers.Row.{newest, priority, saves}
use Rattle.rules.specs.Books.Plan.{Obeys}
use Rattle.rules.specs.Schedulers.Figures.{Figures, holds, priority_of, rank_of}
use Rattle.rules.specs.Schedulers.Lazy.{Words, back_of, entering, restored}
use Rattle.rules.specs.Soundness.Sound.{SoundFigures, saved_of, SoundWords}
use Rattle.rules.specs.declared.plan.Plan.{Plan}
use Rattle.rules.specs.declared.protocol.Protocol.{Protocol}
use Rattle.rules.proofs.Numbers.Row.{priority_below, priority_suc, saves_newest, saves_none}
use Rattle.rules.proofs.Books.Obeyed.{base_byte, ceiling_byte, base_maximum, ceiling_maximum}
use Rattle.rules.proofs.Schedulers.FiguresKept.{inside}
use Rattle.rules.proofs.Schedulers.Rules.{rank_out, rank_in, entering_same}

module _ {p : Plan} (O : Obeys p) {f : Figures} (F : SoundFigures p f) where
  -- a released task's priority is its base or the ceiling of a lock that it may take
  priority_most : (x : ℕ) → 0 < at f.released x → priority_of p f x ≤ at p.maximum x
  unfolding priority_of holds
  priority_most x o =
      let k : x < p.tasks = inside F x o in
      let b : priority_of p f x < suc (at p.maximum x) = priority_below (at p.ceiling) (at p.base x) (suc (at p.maximum x)) (at f.takes x)
      (at f.depth x) (omega (arith, base_maximum O x k))
      (λ l h. omega (arith, ceiling_maximum O x l k (F.known x l h) (F.declared x l h))) in
      omega arith

  pub rank_most : (x : ℕ) → rank_of p f x ≤ at p.maximum x
  rank_most x = ⊎_elim (λ z. omega (arith, rank_in p f x z)) (λ o. omega (arith, rank_out p f x o, priority_most x o)) (eq-zero-or-pos (at f.released x))

  -- a saved word is a priority under the newest take
  saved_most : (x k : ℕ) → at f.depth x ≡ k → newest (saved_of p f x) ≤ at p.maximum x
  unfolding saved_of priority_of
  saved_most x zero e = omega (
    arith,
    ap (λ d. newest (saves (at p.ceiling) (at p.base x) (at f.takes x) d)) e
        ∙ ap newest (saves_none (at p.ceiling) (at p.base x) (at f.takes x)),
  )
  saved_most x (suc k) e = ⊎_elim
      (λ z. absurd (omega (arith, F.resting x z)))
      (λ o. omega (
        arith,
        priority_most x o,
        ap (λ d. newest (saves (at p.ceiling) (at p.base x) (at f.takes x) d)) e,
        saves_newest (at p.ceiling) (at p.base x) (base_byte O x) (ceiling_byte O) (at f.takes x) k,
        ap (priority (at p.ceiling) (at p.base x) (at f.takes x)) e,
        priority_suc (at p.ceiling) (at p.base x) (at f.takes x) k,
      ))
      (eq-zero-or-pos (at f.released x))

  module _ {pr : Protocol} {w : Words} (W : SoundWords pr p f w) where
    pub user_most : w.user ≤ at p.maximum w.running
    user_most = omega (arith, W.user, rank_most w.running)

    pub back_most : back_of w ≤ at p.maximum w.running
    back_most = omega (arith, ap newest (W.saved w.running), saved_most w.running (at f.depth w.running) refl)

    -- an entry finds the words as they are, and so does a call
    pub enters_same : entering p.maximum w ≡ w
    enters_same = entering_same p.maximum w user_most

    pub calls_same : (stays : Bool) (l calls : ℕ) → entering p.maximum (restored stays l calls w) ≡ restored stays l calls w
    unfolding restored
    calls_same stays l calls = entering_same p.maximum (restored stays l calls w) back_most
