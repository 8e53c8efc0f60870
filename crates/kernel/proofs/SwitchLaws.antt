-- The ways through the code of a switch. Assumes nothing.
use mathlib.Core.Path.{◌≡◌, sym, ◌∙◌, ap}
use mathlib.Core.Logic.{⊎_elim}
use mathlib.Core.Bool.{true, false}
use mathlib.Core.List.{List}
use Prim.Native.Nat.{ℕ, ◌≤◌, ◌<◌, max}
use native.Mathlib.Nat.{eq-zero-or-pos}
use native.Mathlib.Omega.{arith}
use lib.Dec.{ltb}
use lib.ListN.{set}
use Rattle.rules.specs.Numbers.Capacity.{max_tasks, nobody}
use Rattle.rules.specs.Numbers.Place.{at, greatest}
use Rattle.rules.specs.Schedulers.Elect.{elected}
use Rattle.rules.specs.Schedulers.Protocol.{second_word}
use Rattle.rules.specs.Schedulers.Lazy.{cut_to, entering, words_of, best_kept, runs_on, switched, stays, leaves, after_release}
use Rattle.rules.specs.declared.protocol.Protocol.{Protocol}
use Rattle.rules.specs.declared.state.State.{State}
use Rattle.rules.specs.declared.priority.KernelPriority.{KernelPriority}
use Rattle.rules.specs.declared.priority.UserPriority.{UserPriority}
use Rattle.rules.proofs.Numbers.Choice.{if_true, if_false}
use Rattle.rules.proofs.Numbers.Place.{none_past, greatest_set}
use Rattle.rules.proofs.Schedulers.Elect.{elected_lead, elected_none}
use Rattle.rules.proofs.Schedulers.Rules.{uncut}
use Rattle.rules.proofs.Soundness.Shortcuts.{newcomer_runs}
use Rattle.tournament.specs.Tournament.{IsTournamentOf}
use Rattle.tournament.specs.declared.tree.Tournament.{Tournament}
use Rattle.kernel.specs.Acting.{IdleWord, Arrives, with_words}

-- ---- an entry

module _ (maximum : List ℕ) (s : State) where
  pub enters_idle : IdleWord s → max_tasks ≤ s.head.running → s ≡ with_words s (entering maximum (words_of s))
  unfolding entering
  enters_idle h l = ap (λ v. record s { head = record s.head { user = record { 0 = v } } }) (sym (uncut (at maximum s.head.running) s.head.user.0 (omega (arith, h l))))

  pub enters_cut : (k : KernelPriority) (user : UserPriority) → k.0 ≡ at maximum s.head.running → user.0 ≡ cut_to k.0 s.head.user.0
      → record s { head = record s.head { user = user } } ≡ with_words s (entering maximum (words_of s))
  unfolding entering
  enters_cut k user e g = ap (λ v. record s { head = record s.head { user = record { 0 = v } } }) (g ∙ ap (λ x. cut_to x s.head.user.0) e)

module _ (n : ℕ) (tree : Tournament) (s : State) (T : IsTournamentOf n tree s) where
  few : n ≤ max_tasks
  few = omega (arith, tree.few, T.tasks)

  -- the priority that is kept for the task that is elected; there is none where that is nobody
  pub elected_kept : at s.kept (elected (at s.released) (at s.kept) n) ≡ best_kept s.kept n
  elected_kept = ⊎_elim
      (λ z. ap (at s.kept) (elected_none (at s.released) (at s.kept) n (omega (arith, few)) z) ∙ sym (none_past s.kept max_tasks nobody T.sized (omega arith)) ∙ sym z)
      (λ o. (elected_lead (at s.released) (at s.kept) n (omega (arith, few)) o).keyed)
      (eq-zero-or-pos (greatest (at s.kept) n))

  -- it runs by it; `kept` is the state where nothing is kept for it
  pub switch_runs : (pr : Protocol) (q m : ℕ) (user : UserPriority) (k best next : KernelPriority) (kept : State) → q ≡ elected (at s.released) (at s.kept) n
      → user.0 ≡ k.0 → k.0 ≡ best_kept s.kept n
      → kept ≡ record s { head = record s.head { running = q; user = user }; kept = set s.kept q 0 }
      → best.0 ≡ best_kept kept.kept m → m ≡ n → next ≡ record { 0 = second_word pr kept.head.user.0 best.0 }
      → record kept { head = record kept.head { next = next } } ≡ with_words s (switched pr n s.released s.kept (words_of s))
  unfolding switched runs_on
  switch_runs pr q m user k best next kept e g u h b t w =
      let U : user ≡ record { 0 = at s.kept q } = ap (λ v. record { 0 = v }) (g ∙ u ∙ sym elected_kept ∙ ap (at s.kept) (sym e)) in
      rw (w, b, t, h, U, e)

-- a task leaves with its word; `kept` is the state where that is kept for it
pub leave_switches : (pr : Protocol) (n m : ℕ) (s kept after : State) (word : KernelPriority) → word.0 ≡ s.head.user.0
    → kept ≡ record s { kept = set s.kept s.head.running word.0 } → m ≡ n → after ≡ with_words kept (switched pr m kept.released kept.kept (words_of kept))
    → after ≡ with_words s (leaves pr n s.released (words_of s))
unfolding leaves switched runs_on
leave_switches pr n m s kept after word e k t g = rw (g, t, k, e)

-- ---- release

module _ (pr : Protocol) (n t : ℕ) (tree : Tournament) (s : State) (base most : KernelPriority) (T : IsTournamentOf n tree s) where
  -- a newcomer above the user word and above all that is kept
  pub newcomer_first : (leaving best next : KernelPriority) (user : UserPriority) (kept : State) → Arrives n s t → leaving.0 ≡ s.head.user.0
      → kept ≡ record s { kept = set s.kept s.head.running leaving.0 } → user.0 ≡ base.0 → best.0 ≡ max most.0 leaving.0
      → next ≡ record { 0 = second_word pr user.0 best.0 } → s.head.user.0 < base.0 → most.0 < base.0 → most.0 ≡ best_kept s.kept n
      → record kept { head = record kept.head { running = t; user = user; next = next } }
      ≡ with_words s (switched pr n s.released (set (set s.kept t base.0) s.head.running s.head.user.0) (words_of s))
  newcomer_first leaving best next user kept A g k u b w low high top =
      let U : user ≡ record { 0 = base.0 } = ap (λ v. record { 0 = v }) u in
      rw (w, b, U, k, g, top) (ap (with_words s) (sym (newcomer_runs pr n t base.0 s.head.running s.head.user.0 s.released s.kept (few n tree s T) T.sized A.known
      A.none A.other A.left A.idle low (omega (arith, top)) (words_of s))))

  -- one that waits
  pub newcomer_later : (best next : KernelPriority) (kept : State) → Arrives n s t → kept ≡ record s { kept = set s.kept t base.0 }
      → best.0 ≡ max most.0 base.0 → next ≡ record { 0 = second_word pr kept.head.user.0 best.0 } → most.0 ≡ best_kept s.kept n
      → record kept { head = record kept.head { next = next } } ≡ with_words s (stays pr n (set s.kept t base.0) (words_of s))
  unfolding stays
  newcomer_later best next kept A k b w top =
      let B : best.0 ≡ best_kept (set s.kept t base.0) n = b ∙ ap (λ v. max v base.0) top
      ∙ sym (greatest_set s.kept n t base.0 A.none A.known (omega (arith, few n tree s T, T.sized, A.known))) in
      rw (w, B, k)

-- the kernel switches for a base strictly above the user word, and only there
module _ (pr : Protocol) (n t : ℕ) (s : State) (base : KernelPriority) where
  pub arrives_first : (after : State) → true ≡ ltb s.head.user.0 base.0
      → after ≡ with_words s (switched pr n s.released (set (set s.kept t base.0) s.head.running s.head.user.0) (words_of s))
      → after ≡ with_words s (after_release pr n s.released (set s.kept t base.0) base.0 (words_of s))
  unfolding after_release
  arrives_first after l e = e ∙ ap (with_words s) (sym (if_true (ltb s.head.user.0 base.0) _ _ (sym l)))

  pub arrives_among : (m : ℕ) (kept after : State) → m ≡ n → true ≡ ltb s.head.user.0 base.0 → kept ≡ record s { kept = set s.kept t base.0 }
      → after ≡ with_words kept (leaves pr m kept.released (words_of kept))
      → after ≡ with_words s (after_release pr n s.released (set s.kept t base.0) base.0 (words_of s))
  unfolding leaves switched runs_on
  arrives_among m kept after q l k e = arrives_first after l (rw (e, q, k))

  pub arrives_later : (after : State) → false ≡ ltb s.head.user.0 base.0
      → after ≡ with_words s (stays pr n (set s.kept t base.0) (words_of s))
      → after ≡ with_words s (after_release pr n s.released (set s.kept t base.0) base.0 (words_of s))
  unfolding after_release
  arrives_later after l e = e ∙ ap (with_words s) (sym (if_false (ltb s.head.user.0 base.0) _ _ (sym l)))
