-- How many records of a part a line says is how many it has there; so the line of a record is the one that says it. Assumes nothing.
use mathlib.Core.Path.{◌≡◌, refl, sym, ◌∙◌, ap}
use mathlib.Core.Bool.{Bool, true, false}
use mathlib.Core.List.{List, [], ◌∷◌, map}
use Prim.Native.Nat.{ℕ, suc, ◌+◌}
use native.Mathlib.Omega.{arith}
use lib.Dec.{eqb}
use lib.ListN.{length, drop, length-map}
use Rattle.rules.specs.Numbers.Verdict.{Verdict}
use Rattle.rules.specs.Books.Event.{event_number}
use Rattle.rules.proofs.Numbers.Choice.{if_true, if_false, by_test, untrue}
use Rattle.jobs.specs.Job.{job_events, job_answer}
use Rattle.texts.specs.Cut.{space, before, trimmed, bare}
use Rattle.texts.specs.Kind.{kind_named, fields_of, record_of, has_items}
use Rattle.texts.specs.Line.{content_of, word_length, field_of, field_length, after_field, plain_line, job_room, job_said, job_line, ended, with_second, with_first, named_line, words_line}
use Rattle.texts.specs.Line.{line_of, items_after, items_of, item_numbers}
use Rattle.texts.specs.Lines.{of_part, count_in}
use Rattle.texts.specs.declared.kind.Kind.{Kind}
use Rattle.std.specs.Prelude.{Option, Some, None, Result, Ok, Err, if◌then◌else◌}
use Rattle.texts.specs.declared.number.Mistake.{Mistake}
use Rattle.texts.specs.declared.line.Line.{Line}

-- a line that was found under the name of this kind, with these items: where it is a job, the kind is, and it counts its release and its events
Counted : Kind → List ℕ → Line → Type 0
Counted kind items Line.Blank = Unit
Counted kind items (Line.Record p w) = Unit
Counted kind items (Line.Job w n) = (kind ≡ Kind.Job) × (n ≡ length (job_events items job_room) + 1)
Counted kind items Line.Unknown = Unit
Counted kind items (Line.Wrong k word m) = Unit
Counted kind items (Line.Refused why place) = Unit

job_only : (kind : Kind) → has_items kind ≡ true → kind ≡ Kind.Job
unfolding has_items
job_only Kind.Task e = untrue (sym e)
job_only Kind.Lock e = untrue (sym e)
job_only Kind.Use e = untrue (sym e)
job_only Kind.Release e = untrue (sym e)
job_only Kind.Acquire e = untrue (sym e)
job_only Kind.Unlock e = untrue (sym e)
job_only Kind.Work e = untrue (sym e)
job_only Kind.Finish e = untrue (sym e)
job_only Kind.Tick e = untrue (sym e)
job_only Kind.Job e = refl

job_counted : (kind : Kind) (w : ℕ) (items : List ℕ) → kind ≡ Kind.Job → Counted kind items (job_line w items)
unfolding job_line job_answer job_said Counted
job_counted kind w items e = go (job_answer items job_room).verdict
  where
    go : (v : Verdict) → Counted kind items (job_said w v (length (job_events items job_room)))
    go (Ok _) = (e, refl)
    go (Err f) = tt

plain_counted : (kind : Kind) (items : List ℕ) (a b : ℕ) (bytes : List ℕ) → Counted kind items (plain_line kind a b bytes)
unfolding plain_line Counted
plain_counted kind items a b [] = tt
plain_counted kind items a b (c ∷ cs) = tt

ended_counted : (kind : Kind) (a b : ℕ) (bytes : List ℕ) → Counted kind (bare bytes) (ended kind a b bytes)
unfolding ended
ended_counted kind a b bytes = by_test (has_items kind)
    (λ e. rw (if_true (has_items kind) (job_line (record_of kind a b) (bare bytes)) (plain_line kind a b bytes) e) (job_counted kind (record_of kind a b) (bare bytes) (job_only kind e)))
    (λ e. rw (if_false (has_items kind) (job_line (record_of kind a b) (bare bytes)) (plain_line kind a b bytes) e) (plain_counted kind (bare bytes) a b bytes))

second_counted : (kind : Kind) (a : ℕ) (n : Result ℕ Mistake) (rest : List ℕ) → Counted kind (bare rest) (with_second kind a n rest)
unfolding with_second Counted
second_counted kind a (Ok b) rest = ended_counted kind a b rest
second_counted kind a (Err m) rest = tt

first_counted : (kind : Kind) (n : Result ℕ Mistake) (rest : List ℕ) → Counted kind (bare (after_field kind 1 rest)) (with_first kind n rest)
unfolding with_first Counted
first_counted kind (Ok a) rest = second_counted kind a (field_of kind 1 rest) (after_field kind 1 rest)
first_counted kind (Err m) rest = tt

-- a job has no second number
no_second : (kind : Kind) (rest : List ℕ) → kind ≡ Kind.Job → bare (after_field kind 1 rest) ≡ bare rest
unfolding field_length fields_of
no_second kind rest e = ap (λ k. bare (after_field k 1 rest)) e

-- the numbers of a line are as many as it counts
agrees : (part : ℕ) (kind : Kind) (found items : List ℕ) (l : Line) → Counted kind found l → (kind ≡ Kind.Job → found ≡ items)
    → count_in part l ≡ length (of_part part l items)
unfolding Counted count_in of_part item_numbers
agrees part kind found items Line.Blank h f = refl
agrees part kind found items (Line.Record p w) h f = go (eqb p part)
  where
    go : (t : Bool) → (if t then 1 else 0) ≡ length (if t then w ∷ [] else [])
    go true = refl
    go false = refl
agrees part kind found items (Line.Job w n) (e, h) f = go (eqb part 3)
  where
    many : n ≡ suc (length (map event_number (job_events items job_room)))
    many = h ∙ omega (arith, length-map (job_events items job_room) event_number, ap (λ x. length (job_events x job_room)) (f e))

    go : (t : Bool) → (if t then n else 0) ≡ length (if t then w ∷ map event_number (job_events items job_room) else [])
    go true = many
    go false = refl
agrees part kind found items Line.Unknown h f = refl
agrees part kind found items (Line.Wrong k word m) h f = refl
agrees part kind found items (Line.Refused why place) h f = refl

named_agrees : (part : ℕ) (named : Option Kind) (rest : List ℕ) → count_in part (named_line named rest) ≡ length (of_part part (named_line named rest) (bare (after_field Kind.Job 0 rest)))
unfolding named_line count_in of_part
named_agrees part (Some kind) rest =
    agrees part kind (bare (after_field kind 1 (after_field kind 0 rest))) (bare (after_field Kind.Job 0 rest)) (with_first kind (field_of kind 0 rest) (after_field kind 0 rest))
    (first_counted kind (field_of kind 0 rest) (after_field kind 0 rest))
    (λ e. no_second kind (after_field kind 0 rest) e ∙ ap (λ k. bare (after_field k 0 rest)) e)
named_agrees part None rest = refl

words_agree : (part : ℕ) (words : List ℕ) → count_in part (words_line words) ≡ length (of_part part (words_line words) (items_after words))
unfolding words_line count_in of_part
words_agree part [] = refl
words_agree part (c ∷ cs) = named_agrees part (kind_named (before space (c ∷ cs))) (drop (word_length (c ∷ cs)) (c ∷ cs))

pub count_agrees : (part : ℕ) (line : List ℕ) → count_in part (line_of line) ≡ length (of_part part (line_of line) (items_of line))
unfolding line_of
count_agrees part line = words_agree part (trimmed (content_of line))
