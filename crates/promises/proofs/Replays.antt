-- Demands 2 and 3, said of what `replay` returns, and of the row bytes as it leaves them. Assumes nothing.
use mathlib.Core.Path.{◌≡◌, sym, ◌∙◌, ap, ap₂, subst}
use mathlib.Core.List.{List}
use Prim.Native.Nat.{ℕ, ◌*◌, ◌<◌}
use contract.Lifetimes.{Lfts}
use Rattle.std.specs.Prelude.{Result}
use native.Mathlib.Omega.{arith}
use lib.ListN.{length, replicate, length-replicate}
use Rattle.rules.specs.Numbers.Place.{at}
use Rattle.rules.specs.Numbers.Answer.{verdict_number}
use Rattle.rules.specs.Books.Book.{plan_in, events_of, check_of, checked_of}
use Rattle.rules.specs.Replays.Run.{Ran}
use Rattle.rules.specs.Replays.Replay.{ran_as, replay_of}
use Rattle.rules.specs.Demands.Bound.{bound_of}
use Rattle.rules.specs.Demands.Replayed.{RanUpTo, BookReaches, Compared}
use Rattle.rules.specs.declared.plan.Plan.{Plan}
use Rattle.rules.specs.declared.protocol.Protocol.{Protocol}
use Rattle.rules.specs.declared.protocol.Protocol.TheVariants.{Second, First}
use Rattle.rules.specs.Books.Book.{Checked, checked_with}
use Rattle.rules.specs.declared.answer.Fault.{Fault}
use Rattle.rules.specs.declared.answer.Opened.{Opened}
use Rattle.rules.specs.declared.answer.Replayed.{Replayed}
use Rattle.rules.proofs.Demands.Replayed.{replayed, both_replayed}
use Rattle.plan.proofs.bound.Reads as bound
use Rattle.book.proofs.check.Reads as check
use Rattle.scheduler.proofs.replay.Reads as replay
use Rattle.promises.specs.Reaching.{Reaching}
use Rattle.promises.proofs.Passed.{number_is, plan_is}

-- where none of 1 to 9 and 24 refuses the book, every row, the verdict, both counts and every delay are what demands 2 and 3 ask
pub replay_keeps : (κs : Lfts 2) (a : _) (b : _) (r : Replayed) → replay.Post κs a r b
    → verdict_number (check_of a.1.0.now (length a.1.1.0.now)) ≡ 0
    → RanUpTo a.0 (plan_in a.1.0.now) (events_of a.1.0.now) a.1.1.0.now (ran_as r b.1.1.0.now) r.state.head.accepted
replay_keeps κs a b r h e =
    subst (λ (x : Ran). RanUpTo a.0 (plan_in a.1.0.now) (events_of a.1.0.now) a.1.1.0.now x x.state.head.accepted) (sym h.0)
    ((replayed a.0 a.1.0.now a.1.1.0.now).ran e)

-- of two replays of one book with the same row bytes, the one by the first protocol and the other by the second: the same is refused, and the calls of the
-- first lie between those of the second and the eager ones
pub replays_compare : (κs ls : Lfts 2) (a : _) (b : _) (r : Replayed) (c : _) (d : _) (q : Replayed) → replay.Post κs a r b → replay.Post ls c q d
    → a.0 ≡ First → c.0 ≡ Second → a.1.0.now ≡ c.1.0.now → a.1.1.0.now ≡ c.1.1.0.now
    → Compared (ran_as r b.1.1.0.now) (ran_as q d.1.1.0.now)
replays_compare κs ls a b r c d q h k first second books rows =
    subst (λ (x : Ran). Compared x (ran_as q d.1.1.0.now)) (sym (h.0 ∙ ap (λ pr. replay_of pr a.1.0.now a.1.1.0.now) first))
    (subst (λ (y : Ran). Compared (replay_of First a.1.0.now a.1.1.0.now) y)
    (sym (k.0 ∙ ap (λ pr. replay_of pr c.1.0.now c.1.1.0.now) second ∙ ap₂ (replay_of Second) (sym books) (sym rows)))
    (both_replayed a.1.0.now a.1.1.0.now))

-- ---- the bound is reached, as the code counts it

module _ (pr : Protocol) (b : List ℕ) (room : ℕ) (c : Checked) (h : c ≡ checked_of b room) (e : verdict_number c.verdict ≡ 0) where
  abbrev same_plan : c.plan ≡ plan_in b
  same_plan = plan_is b room c h e

  some_book : (t : ℕ) → t < c.plan.tasks → BookReaches pr b t
  some_book t l = (replayed pr b (replicate room 0)).reached (rw (length-replicate {A = ℕ} room 0) (number_is b room c h e)) t (rw same_plan at l)

  pub reaches : (t n : ℕ) → t < c.plan.tasks → n ≡ bound_of c.plan t → Reaching pr b t n
  reaches t n l m =
      let B : BookReaches pr b t = some_book t l in
      let room : List ℕ = replicate (length (events_of B.book) * 4) 0 in
      let R = B.replay room (omega (arith, length-replicate {A = ℕ} (length (events_of B.book) * 4) 0)) in
      record {
        book = B.book;
        plan = B.plan;
        bytes = B.bytes;
        released = R.released;
        job = R.job;
        accepts = λ κs lent left r q by same fits.
            ap (λ (x : Ran). verdict_number x.verdict) (q.0 ∙ ap₂ (λ pr x. replay_of pr x lent.1.1.0.now) by same)
            ∙ (B.replay lent.1.1.0.now fits).verdict;
        reports = λ κs lent left r q by same fits.
            ap (λ (x : Ran). at x.state.delay t) (q.0 ∙ ap₂ (λ pr x. replay_of pr x lent.1.1.0.now) by same)
            ∙ (B.replay lent.1.1.0.now fits).delay
            ∙ sym (m ∙ ap (λ (p : Plan). bound_of p t) same_plan);
      }

-- for every task of a book that `check` accepts some book reaches what `bound` returns, by either protocol
pub bound_reached : (pr : Protocol) (κs : Lfts 1) (a : _) (b : _) (c : Result Opened Fault) → check.Post κs a c b
    → verdict_number (checked_with c).verdict ≡ 0 → (t n : ℕ) → t < (checked_with c).plan.tasks
    → bound.Post tt ((checked_with c).plan, (t, tt)) n ((checked_with c).plan, (t, tt)) → Reaching pr a.0.now t n
bound_reached pr κs a b c h e = reaches pr a.0.now a.1.0 (checked_with c) h e
