-- The texts of P1, by both protocols, and of P5, computed from their books' bytes to the last byte that is printed. Assumes nothing.
use Rattle.std.specs.Prelude.{◌≡◌, refl, List, [], ◌∷◌, ℕ, if◌then◌else◌}
use Rattle.rules.specs.Numbers.Choice.{all_true}
use Rattle.rules.specs.Numbers.Place.{every, any, count, greatest, first_from, from, renewed, zeros}
use Rattle.rules.specs.Numbers.Refusal.{number_of, first_true, found, first_fault}
use Rattle.rules.specs.Numbers.Mask.{has_bit, with_bit}
use Rattle.rules.specs.Numbers.Row.{has, priority, saves}
use Rattle.rules.specs.Books.Event.{event_fault, event_of}
use Rattle.rules.specs.Books.Plan.{most, count_fault, task_fault, lock_fault, declares, users, users_base, users_fault, ceiling_fault, maximum_fault, above_fault}
use Rattle.rules.specs.Books.Load.{task_fault_at, lock_fault_at, count_fault_of, use_fault, use_above, masks_of, plan_of, record_checks, load_checks}
use Rattle.rules.specs.Books.Book.{size_of, body_at, layout_fault, contents_checks, event_checks, check_of, checked_as}
use Rattle.rules.specs.Schedulers.Figures.{holds, priority_of, rank_of}
use Rattle.rules.specs.Schedulers.Elect.{earlier, earliest, elected}
use Rattle.rules.specs.Schedulers.EventRefusals.{elsewhere, not_newest, past_limit, tests_of}
use Rattle.rules.specs.Schedulers.EventRefusals.{release_order, acquire_order, unlock_order, work_order, finish_order, refusal_of}
use Rattle.rules.specs.Schedulers.FiguresAfter.{differs, eager_calls, stays_open, left_of, charged, delayed, figures_after}
use Rattle.rules.specs.Schedulers.Protocol.{second_word}
use Rattle.rules.specs.Schedulers.Lazy.{calls_for, cut_to, entering, runs_on, switched, stays, after_release, after_acquire, restored, leaves, after_unlock}
use Rattle.rules.specs.Schedulers.Lazy.{words_after, lazy_call}
use Rattle.rules.specs.Soundness.Sound.{kept_of, saved_of, owner_of}
use Rattle.rules.specs.Soundness.SoundTest.{task_obeys, lock_obeys, spare_obeys, obeys, row_test, own_test, number_new, number_test}
use Rattle.rules.specs.Soundness.SoundTest.{task_test, lock_test, runs_test, second_test, head_test, spare_test, sound_test}
use Rattle.rules.specs.Replays.Step.{after_of, answered, act_of, step_of}
use Rattle.rules.specs.Replays.Run.{with_row, onward, run_from}
use Rattle.rules.specs.Replays.Replay.{replay_as, replay_of}
use Rattle.rules.specs.Demands.Crane.{book}
use Rattle.rules.specs.declared.protocol.Protocol.TheVariants.{Second, First}
use Rattle.page.specs.Decimal.{digits_in, digits}
use Rattle.report.specs.Report.{spaced, line, header, runner, row_words, row_line, row_lines, calls_line, delayed_line, refused_line, report_of}
use Rattle.report.specs.Shown.{block, block_by_first, block_of_refused}
use Rattle.orbeshuri.specs.Text.{text_of}

-- the book of P5: the plan of P1, and work past a section's limit
book_of_refused : List ℕ
book_of_refused =
    1 ∷ 0 ∷ 4 ∷ 0 ∷ 32 ∷ 0 ∷ 0 ∷ 0
    ∷ 2 ∷ 0 ∷ 2 ∷ 0 ∷ 40 ∷ 0 ∷ 0 ∷ 0
    ∷ 3 ∷ 0 ∷ 4 ∷ 0 ∷ 48 ∷ 0 ∷ 0 ∷ 0
    ∷ 4 ∷ 0 ∷ 4 ∷ 0 ∷ 56 ∷ 0 ∷ 0 ∷ 0
    ∷ 1 ∷ 5 ∷ 3 ∷ 5 ∷ 5 ∷ 5 ∷ 7 ∷ 7
    ∷ 5 ∷ 0 ∷ 4 ∷ 0 ∷ 3 ∷ 0 ∷ 10 ∷ 0
    ∷ 0 ∷ 0 ∷ 0 ∷ 1 ∷ 1 ∷ 1 ∷ 2 ∷ 0
    ∷ 1 ∷ 0 ∷ 0 ∷ 0
    ∷ 2 ∷ 0 ∷ 0 ∷ 0
    ∷ 4 ∷ 0 ∷ 4 ∷ 0
    ∷ 4 ∷ 0 ∷ 1 ∷ 0
    ∷ []

printed : (text_of Second book ≡ block) × (text_of First book ≡ block_by_first) × (text_of Second book_of_refused ≡ block_of_refused)
unfolding book block block_by_first book_of_refused block_of_refused
    all_true every any count greatest first_from from renewed zeros number_of first_true found first_fault event_fault event_of has_bit
    with_bit most count_fault task_fault lock_fault declares users users_base users_fault ceiling_fault maximum_fault above_fault task_fault_at lock_fault_at count_fault_of
    use_fault use_above masks_of plan_of
    record_checks load_checks size_of body_at layout_fault contents_checks event_checks check_of checked_as
    has priority saves holds priority_of rank_of earlier earliest elected elsewhere not_newest past_limit tests_of release_order acquire_order unlock_order work_order
    finish_order refusal_of differs eager_calls stays_open left_of charged delayed figures_after
    second_word calls_for cut_to entering runs_on switched stays after_release after_acquire restored leaves after_unlock
    words_after lazy_call kept_of saved_of owner_of
    task_obeys lock_obeys spare_obeys obeys row_test own_test number_new number_test task_test lock_test runs_test second_test head_test spare_test sound_test
    after_of answered act_of step_of with_row onward run_from replay_as replay_of
    digits_in digits spaced line header runner row_words row_line row_lines calls_line delayed_line refused_line report_of
printed = (refl, refl, refl)
