-- RULES 11: the eager scheduler. Its state is the figures alone, and the running task is worked out anew after each event. Assumes nothing.
use Rattle.std.specs.Prelude.{ℕ, Ok, Err}
use Rattle.rules.specs.Numbers.Verdict.{Tested}
use Rattle.rules.specs.Numbers.Place.{at}
use Rattle.rules.specs.Schedulers.Figures.{Figures, rank_of}
use Rattle.rules.specs.Schedulers.Elect.{elected}
use Rattle.rules.specs.Schedulers.EventRefusals.{refusal_of}
use Rattle.rules.specs.Schedulers.FiguresAfter.{figures_after}
use Rattle.rules.specs.declared.plan.Plan.{Plan}
use Rattle.rules.specs.declared.event.Event.{Event}

-- RULES 11.2: the task that it runs
unfoldable pub running_of : Plan → Figures → ℕ
running_of p f = elected (at f.released) (rank_of p f) p.tasks

-- an accepted event moves the figures, and a refused one changes nothing
unfoldable pub settle : Tested → Figures → Figures → Figures
settle (Ok _) moved f = moved
settle (Err why) moved f = f

unfoldable pub eager_test : Plan → Figures → Event → Tested
eager_test p f e = refusal_of p f (running_of p f) e

unfoldable pub eager_step : Plan → Figures → Event → Figures
eager_step p f e = settle (eager_test p f e) (figures_after p f (running_of p f) e) f
