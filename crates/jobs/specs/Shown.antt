-- RULES 20.2, 20.4: the job of the request, the empty text and the places of 25, computed as one claim. Assumes nothing.
use Rattle.std.specs.Prelude.{Bool, true, false, ◌&&◌, List, [], ◌∷◌, ℕ, T, eqb, replicate}
use Prim.Native.String.{String}
use Rattle.rules.specs.Numbers.Answer.{verdict_number, verdict_place}
use Rattle.rules.specs.Numbers.Refusal.{number_of}
use Rattle.rules.specs.Books.Bytes.{long_bytes}
use Rattle.rules.specs.Books.Event.{kind_of, id_of, amount_of}
use Rattle.page.specs.Ascii.{ascii}
use Rattle.jobs.specs.Reader.{mark_of, sign, behind, begin, in_units, in_bracket, in_lock, behind_sign, step, prepend, ends, ends_in, onward, run, read_job}
use Rattle.jobs.specs.Job.{ReadInto, verdict_of, given_by, job_verdict, job_events, job_answer, job_of}

same : List ℕ → List ℕ → Bool
same [] [] = true
same [] (y ∷ ys) = false
same (x ∷ xs) [] = false
same (x ∷ xs) (y ∷ ys) = eqb x y && same xs ys

is : ReadInto → (number place events : ℕ) → List ℕ → Bool
is r number place events space =
    eqb (verdict_number r.answer.verdict) number && eqb (verdict_place r.answer.verdict) place && eqb r.answer.events events && same r.space space

-- space for nine events and one byte more
room : List ℕ
room = replicate 37 9

reads : String → (events : ℕ) → List ℕ → Bool
reads text events space = is (job_of (ascii text) room) 0 0 events space

refuses : String → (place : ℕ) → Bool
refuses text place = is (job_of (ascii text) room) 25 place 0 room

shown : T (
    reads "w2 [0 w1 [1 w2] w1]" 9 (
    4 ∷ 0 ∷ 2 ∷ 0
    ∷ 2 ∷ 0 ∷ 0 ∷ 0
    ∷ 4 ∷ 0 ∷ 1 ∷ 0
    ∷ 2 ∷ 1 ∷ 0 ∷ 0
    ∷ 4 ∷ 0 ∷ 2 ∷ 0
    ∷ 3 ∷ 1 ∷ 0 ∷ 0
    ∷ 4 ∷ 0 ∷ 1 ∷ 0
    ∷ 3 ∷ 0 ∷ 0 ∷ 0
    ∷ 5 ∷ 0 ∷ 0 ∷ 0
    ∷ 9 ∷ [])
    && reads "" 1 (5 ∷ 0 ∷ 0 ∷ 0 ∷ replicate 33 9)
    && reads "[0]" 3 (2 ∷ 0 ∷ 0 ∷ 0 ∷ 3 ∷ 0 ∷ 0 ∷ 0 ∷ 5 ∷ 0 ∷ 0 ∷ 0 ∷ replicate 25 9)
    && is (job_of (ascii "w1 w2 w3 w4 w5 w6 w7 w8 w65535") room) 26 0 0 room
    && refuses "w0" 1
    && refuses "w01" 1
    && refuses "w65536" 5
    && refuses "[32]" 2
    && refuses "[00]" 2
    && refuses "[0 ]" 3
    && refuses "[0 [0 [0 [0 [0 [0 [0 [0 [0" 24
    && refuses "w1 " 3
    && refuses "w1  w2" 3
    && refuses "x" 0)
unfolding same is room reads refuses ascii verdict_number verdict_place number_of kind_of id_of amount_of long_bytes mark_of sign behind begin in_units in_bracket in_lock behind_sign step prepend ends ends_in onward run read_job verdict_of given_by job_verdict job_events job_answer job_of
shown = tt
