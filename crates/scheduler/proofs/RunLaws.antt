-- The turns of a run: what is left from here comes to what all of it comes to. Assumes nothing.
use Rattle.std.specs.Prelude.{Ok, Err}
use Rattle.rules.specs.Numbers.Verdict.{Answer, refused_at}
use mathlib.Core.Path.{◌≡◌, refl, sym, ◌∙◌, ap, subst}
use mathlib.Core.List.{List, [], ◌∷◌}
use Prim.Native.Nat.{ℕ, suc, ◌+◌, ◌-◌, ◌≤◌, ◌<◌, min}
use native.Mathlib.Numerals.{add-one}
use native.Mathlib.Omega.{arith}
use lib.Dec.{eqb}
use lib.ListN.{length}
use borrow.Author.Tests.{eqb-true}
use Rattle.rules.specs.Numbers.Capacity.{max_tasks}
use Rattle.rules.specs.Numbers.Place.{from}
use Rattle.rules.specs.Schedulers.State.{fresh_of}
use Rattle.rules.specs.Replays.Run.{Ran, onward, run_from}
use Rattle.rules.specs.Replays.Step.{step_of}
use Rattle.rules.specs.declared.plan.Plan.{Plan}
use Rattle.rules.specs.declared.protocol.Protocol.{Protocol}
use Rattle.rules.specs.declared.state.State.{State}
use Rattle.rules.specs.declared.event.Event.{Event}
use Rattle.rules.specs.declared.refusal.Refusal.{Refusal}
use Rattle.rules.proofs.Numbers.Choice.{if_true, if_false, by_test}
use Rattle.rules.proofs.Numbers.Place.{from_same}
use Rattle.rules.proofs.Books.Obeyed.{few_tasks}
use Rattle.rules.proofs.Replays.RowBytes.{row_length}
use Rattle.rules.proofs.Soundness.SoundKept.{act_sound, step_act}
use Rattle.tournament.specs.Keys.{tournament_of}
use Rattle.tournament.specs.Tournament.{IsTournamentOf}
use Rattle.tournament.specs.declared.tree.Tournament.{Tournament}
use Rattle.scheduler.specs.Going.{event_in, event_on, TurnReady, RunReady, Underway}

-- the tournament that is made at the start
pub made_tree : (pr : Protocol) (p : Plan) (s : State) (n : ℕ) (rows : List ℕ) (tree : Tournament) → RunReady pr p s n rows
    → tree.tasks ≡ min p.tasks max_tasks → tree.keys ≡ tournament_of (min p.tasks max_tasks) s.released s.kept → IsTournamentOf p.tasks tree s
made_tree pr p s n rows tree R t k =
    let few : min p.tasks max_tasks ≡ p.tasks = omega (arith, few_tasks R.sound.sound.plan) in record {
      tasks = t ∙ few;
      keys = k ∙ ap (λ m. tournament_of m s.released s.kept) few;
      sized = R.sound.words_sized.kept;
    }

apart : (why : Refusal) (place : ℕ) → Ok tt ≡ refused_at why place → ⊥
apart why place e = cc

-- what one event comes to, before others
module _ (t : State) (k : ℕ) (rows : List ℕ) (rest : State → List ℕ → Ran) where
  abbrev last : State → List ℕ → Ran
  last s₂ rows₂ = record { verdict = Ok tt; state = s₂; rows = rows₂ }

  onward_passed : (a : Answer) (s₂ : State) (rows₂ : List ℕ) → record { verdict = Ok tt; state = s₂; rows = rows₂ } ≡ onward a t k rows last
      → onward a t k rows rest ≡ rest s₂ rows₂
  unfolding onward
  onward_passed (Ok call) s₂ rows₂ e = ap (λ (x : Ran). rest x.state x.rows) (sym e)
  onward_passed (Err why) s₂ rows₂ e = absurd (apart why k (ap (λ (x : Ran). x.verdict) e))

  onward_refused : (a : Answer) (why : Refusal) (place : ℕ) (s₂ : State) (rows₂ : List ℕ)
      → record { verdict = refused_at why place; state = s₂; rows = rows₂ } ≡ onward a t k rows last
      → onward a t k rows rest ≡ record { verdict = refused_at why place; state = s₂; rows = rows₂ }
  unfolding onward
  onward_refused (Ok call) why place s₂ rows₂ e = absurd (apart why place (sym (ap (λ (x : Ran). x.verdict) e)))
  onward_refused (Err w) why place s₂ rows₂ e = sym e

  onward_length : (a : Answer) (s₂ : State) (rows₂ : List ℕ) → record { verdict = Ok tt; state = s₂; rows = rows₂ } ≡ onward a t k rows last
      → (s₂ ≡ t) × (length rows₂ ≡ length rows)
  unfolding onward
  onward_length (Ok call) s₂ rows₂ e = (ap (λ (x : Ran). x.state) e, ap (λ (x : Ran). length x.rows) e ∙ row_length rows k t.head call)
  onward_length (Err why) s₂ rows₂ e = absurd (apart why k (ap (λ (x : Ran). x.verdict) e))

module _ (pr : Protocol) (p : Plan) (events : ℕ → Event) (n : ℕ) (first : State) (start : List ℕ) (R : RunReady pr p first n start) where
  pub going_start : Underway pr p events n first start 0 first start
  going_start = record {
    rest = let q : n - 0 ≡ n = omega arith in ap (λ c. run_from pr p (from events 0 c) 0 first start) q;
    sound = R.sound;
    same = refl;
  }

  module _ (k : ℕ) (s : State) (rows : List ℕ) (G : Underway pr p events n first start k s rows) where
    pub going_ready : k < n → TurnReady pr p s rows k
    going_ready l = record { sound = G.sound; room = omega (arith, G.same, R.room) }

    rest : State → List ℕ → Ran
    rest = run_from pr p (from events (suc k) (n - suc k)) (suc k)

    left : k < n → onward (step_of pr p s (events k)).answer (step_of pr p s (events k)).state k rows rest
        ≡ run_from pr p (from events 0 n) 0 first start
    unfolding run_from from rest
    left l = let q : n - k ≡ suc (n - suc k) = omega arith in sym (ap (λ c. run_from pr p (from events k c) k s rows) q) ∙ G.rest

    -- one turn of what is left: it goes on, or it is refused and has ended
    pub going_next : k < n → (s₂ : State) (rows₂ : List ℕ) → record { verdict = Ok tt; state = s₂; rows = rows₂ } ≡ run_from pr p (events k ∷ []) k s rows
        → Underway pr p events n first start (k + 1) s₂ rows₂
    unfolding run_from rest
    going_next l s₂ rows₂ e =
        let (t, z) = onward_length (step_of pr p s (events k)).state k rows rest (step_of pr p s (events k)).answer s₂ rows₂ e in
        rw (add-one k) (record {
          rest = sym (onward_passed (step_of pr p s (events k)).state k rows rest (step_of pr p s (events k)).answer s₂ rows₂ e) ∙ left l;
          sound = rw t (rw (step_act G.sound (events k)) (act_sound G.sound (events k)));
          same = z ∙ G.same;
        })

    pub going_refused : k < n → (why : Refusal) (place : ℕ) (s₂ : State) (rows₂ : List ℕ)
        → record { verdict = refused_at why place; state = s₂; rows = rows₂ } ≡ run_from pr p (events k ∷ []) k s rows
        → record { verdict = refused_at why place; state = s₂; rows = rows₂ } ≡ run_from pr p (from events 0 n) 0 first start
    unfolding run_from rest
    going_refused l why place s₂ rows₂ e =
        sym (onward_refused (step_of pr p s (events k)).state k rows rest (step_of pr p s (events k)).answer why place s₂ rows₂ e) ∙ left l

    pub going_end : n ≤ k → record { verdict = Ok tt; state = s; rows = rows } ≡ run_from pr p (from events 0 n) 0 first start
    unfolding run_from from
    going_end h = let q : n - k ≡ 0 = omega arith in sym (ap (λ c. run_from pr p (from events k c) k s rows) q) ∙ G.rest

-- what is run from a fresh start
pub run_ready : (pr : Protocol) (p : Plan) (s : State) (n : ℕ) (rows : List ℕ) → s ≡ fresh_of → RunReady pr p fresh_of n rows → RunReady pr p s n rows
run_ready pr p s n rows e R = subst (λ (z : State). RunReady pr p z n rows) (sym e) R

-- the event that is handed in is the body's first
pub run_fresh : (pr : Protocol) (p : Plan) (body : List ℕ) (n : ℕ) (s : State) (first : Event) (rows : List ℕ) (out : Ran)
    → s ≡ fresh_of → first ≡ event_in body 0
    → out ≡ run_from pr p (from (event_on first body) 0 n) 0 s rows → out ≡ run_from pr p (from (event_in body) 0 n) 0 fresh_of rows
unfolding event_on
run_fresh pr p body n s first rows out e f h =
    h ∙ ap (λ (z : State). run_from pr p (from (event_on first body) 0 n) 0 z rows) e
    ∙ ap (λ es. run_from pr p es 0 fresh_of rows) (from_same (event_on first body) (event_in body) 0 n (λ k _ _. by_test (eqb k 0)
    (λ q. if_true (eqb k 0) first (event_in body k) q ∙ f ∙ ap (event_in body) (sym (eqb-true k 0 q)))
    (λ q. if_false (eqb k 0) first (event_in body k) q)))
