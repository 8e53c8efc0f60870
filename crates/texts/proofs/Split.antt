-- The lines of a text, one after the other, and the ways through the code that goes along them. Assumes nothing.
use Rattle.std.specs.Prelude.{Ok, Err, Some, None, if◌then◌else◌}
use mathlib.Core.Path.{◌≡◌, refl, sym, ◌∙◌, ap}
use mathlib.Core.Bool.{Bool, true, false}
use mathlib.Core.Logic.{◌⊎◌, inl, inr, ⊎_elim}
use mathlib.Core.List.{List, [], ◌∷◌, ◌++◌, map}
use Prim.Native.Nat.{ℕ, suc, ◌+◌, ◌*◌, ◌-◌, ◌≤◌, ◌<◌}
use native.Mathlib.Numerals.{add-one}
use native.Mathlib.Omega.{arith}
use lib.Dec.{eqb, ltb}
use lib.ListN.{length, get_or, drop, replicate, length-map, length-replicate, drop_of_length-le}
use lib.Seq.{drop-cons}
use borrow.Author.Tests.{eq-eqb, ne_eqb, lt-ltb, le-ltb}
use Rattle.rules.specs.Numbers.Place.{from, tabulate}
use Rattle.rules.specs.Books.Bytes.{long_bytes}
use Rattle.rules.specs.Books.Event.{event_number}
use Rattle.rules.specs.declared.event.Event.{Event}
use Rattle.rules.specs.declared.answer.Fault.{Fault}
use Rattle.rules.proofs.Numbers.Choice.{if_true, if_false, by_test}
use Rattle.page.specs.declared.Page.{Page}
use Rattle.page.specs.Page.{typed}
use Rattle.page.proofs.Typed.{typed_two, typed_none}
use Rattle.jobs.specs.Job.{Job, job_with, job_events, job_answer, read_with, job_of}
use Rattle.jobs.specs.Sheet.{record_in}
use Rattle.jobs.proofs.Sheets.{records_back}
use Rattle.texts.specs.Cut.{newline, until, up_to, spaces_of}
use Rattle.texts.specs.Line.{without_return, words_line, line_of, job_room, items_of, item_numbers}
use Rattle.texts.specs.Lines.{longer, lines_of, read_lines, of_part, records_of, is_wrong, first_wrong, count_in, line_of_record}
use Rattle.std.specs.List.{slice_split, onto_first, enumerate_from}
use Rattle.std.proofs.lemmas.List.FromFn.{length-enumerate_from, get_or-enumerate_from}
use Rattle.texts.specs.declared.line.Line.{Line}

-- ---- the lines, as `split` gives them: after the last newline it gives one more, without bytes

abbrev pub parts : List ℕ → List (List ℕ)
parts text = slice_split (λ c. eqb c newline) text

longer_is : (c : ℕ) (ls : List (List ℕ)) → onto_first c ls ≡ longer c ls
unfolding longer
longer_is c [] = refl
longer_is c (l ∷ ls) = refl

longer_more : (c : ℕ) (ls : List (List ℕ)) → (longer c (ls ++ [] ∷ []) ≡ longer c ls) ⊎ (longer c (ls ++ [] ∷ []) ≡ longer c ls ++ [] ∷ [])
unfolding longer
longer_more c [] = inl refl
longer_more c (l ∷ ls) = inr refl

-- the lines, or the lines and one without bytes
AreLines : (ps ls : List (List ℕ)) → Type 0
AreLines ps ls = (ps ≡ ls) ⊎ (ps ≡ ls ++ [] ∷ [])

are_parts : (text : List ℕ) → AreLines (parts text) (lines_of text)
unfolding lines_of AreLines
are_parts [] = inr refl
are_parts (c ∷ cs) = by_test (eqb c newline)
    (λ t. rw (if_true (eqb c newline) ([] ∷ lines_of cs) (longer c (lines_of cs)) t)
    (rw t (⊎_elim (λ (e : parts cs ≡ lines_of cs). inl (ap (λ ls. [] ∷ ls) e)) (λ (e : parts cs ≡ lines_of cs ++ [] ∷ []). inr (ap (λ ls. [] ∷ ls) e)) (are_parts cs))))
    (λ t. rw (if_false (eqb c newline) ([] ∷ lines_of cs) (longer c (lines_of cs)) t)
    (rw t (⊎_elim
    (λ (e : parts cs ≡ lines_of cs). inl (longer_is c (parts cs) ∙ ap (longer c) e))
    (λ (e : parts cs ≡ lines_of cs ++ [] ∷ []). ⊎_elim
    (λ (f : longer c (lines_of cs ++ [] ∷ []) ≡ longer c (lines_of cs)). inl (longer_is c (parts cs) ∙ ap (longer c) e ∙ f))
    (λ (f : longer c (lines_of cs ++ [] ∷ []) ≡ longer c (lines_of cs) ++ [] ∷ []). inr (longer_is c (parts cs) ∙ ap (longer c) e ∙ f))
    (longer_more c (lines_of cs)))
    (are_parts cs))))

-- what does not heed a line without bytes at the end is the same of both
same_of_parts : {A : Type 0} (f : List (List ℕ) → A) → ((ls : List (List ℕ)) → f (ls ++ [] ∷ []) ≡ f ls) → (text : List ℕ) → f (parts text) ≡ f (lines_of text)
unfolding AreLines
same_of_parts f h text = ⊎_elim
    (λ (e : parts text ≡ lines_of text). ap f e)
    (λ (e : parts text ≡ lines_of text ++ [] ∷ []). ap f e ∙ h (lines_of text))
    (are_parts text)

blank_line : line_of [] ≡ Line.Blank
unfolding line_of words_line without_return up_to spaces_of until
blank_line = refl

pub records_parts : (part : ℕ) (text : List ℕ) → records_of part (parts text) ≡ records_of part (lines_of text)
unfolding records_of of_part
records_parts part text = same_of_parts (records_of part) (λ ls. go ls) text
  where
    go : (ls : List (List ℕ)) → records_of part (ls ++ [] ∷ []) ≡ records_of part ls
    go [] = ap (λ l. of_part part l (items_of []) ++ []) blank_line
    go (l ∷ ls) = ap (λ x. of_part part (line_of l) (items_of l) ++ x) (go ls)

pub wrong_parts : (n : ℕ) (text : List ℕ) → first_wrong n (map line_of (parts text)) ≡ first_wrong n (read_lines text)
unfolding first_wrong is_wrong
wrong_parts n text = same_of_parts (λ ls. first_wrong n (map line_of ls)) (λ ls. go n ls) text
  where
    go : (n : ℕ) (ls : List (List ℕ)) → first_wrong n (map line_of (ls ++ [] ∷ [])) ≡ first_wrong n (map line_of ls)
    go n [] = ap (λ l. if is_wrong l then Some (suc n, l) else None) blank_line
    go n (l ∷ ls) = ap (λ x. if is_wrong (line_of l) then Some (suc n, line_of l) else x) (go (suc n) ls)

pub record_parts : (part k n : ℕ) (text : List ℕ) → line_of_record part k n (map line_of (parts text)) ≡ line_of_record part k n (read_lines text)
unfolding line_of_record count_in
record_parts part k n text = same_of_parts (λ ls. line_of_record part k n (map line_of ls)) (λ ls. go k n ls) text
  where
    go : (k n : ℕ) (ls : List (List ℕ)) → line_of_record part k n (map line_of (ls ++ [] ∷ [])) ≡ line_of_record part k n (map line_of ls)
    go k n [] = ap (λ l. if ltb k (count_in part l) then suc n else 0) blank_line ∙ if_false (ltb k 0) (suc n) 0 (le-ltb k 0 (omega arith))
    go k n (l ∷ ls) = ap (λ x. if ltb k (count_in part (line_of l)) then suc n else x) (go (k - count_in part (line_of l)) (suc n) ls)

-- ---- what one line comes to, case by case

pub count_known : (part : ℕ) (line case : Line) (n : ℕ) → line ≡ case → n ≡ count_in part case → n ≡ count_in part line
count_known part line case n e h = h ∙ ap (count_in part) (sym e)

pub count_own : (part q w : ℕ) (line : Line) → line ≡ Line.Record q w → q ≡ part → 1 ≡ count_in part line
unfolding count_in
count_own part q w line e h = sym (ap (count_in part) e ∙ if_true (eqb q part) _ _ (eq-eqb q part h))

pub count_other : (part q w : ℕ) (line : Line) → line ≡ Line.Record q w → (q ≡ part → ⊥) → 0 ≡ count_in part line
unfolding count_in
count_other part q w line e h = sym (ap (count_in part) e ∙ if_false (eqb q part) _ _ (ne_eqb q part h))

pub count_job : (part w n : ℕ) (line : Line) → line ≡ Line.Job w n → part ≡ 3 → n ≡ count_in part line
unfolding count_in
count_job part w n line e h = sym (ap (count_in part) e ∙ if_true (eqb part 3) _ _ (eq-eqb part 3 h))

pub count_no_job : (part w n : ℕ) (line : Line) → line ≡ Line.Job w n → (part ≡ 3 → ⊥) → 0 ≡ count_in part line
unfolding count_in
count_no_job part w n line e h = sym (ap (count_in part) e ∙ if_false (eqb part 3) _ _ (ne_eqb part 3 h))

pub ruleset counts = (count_known, count_own, count_other, count_job, count_no_job)

-- ---- the records of a job, one by one out of event space

pub records_start : (f : ℕ → ℕ) (p : Page ℕ) (n : ℕ) → typed p (from f 0 (n - 0)) ≡ typed p (tabulate n f)
records_start f p n = let k : n - 0 ≡ n = omega arith in ap (λ m. typed p (from f 0 m)) k

pub records_next : (f : ℕ → ℕ) (p q r : Page ℕ) (n i w : ℕ) → typed q (from f i (n - i)) ≡ typed p (tabulate n f) → i < n → w ≡ f i → r ≡ typed q (w ∷ [])
    → typed r (from f (i + 1) (n - (i + 1))) ≡ typed p (tabulate n f)
unfolding from
records_next f p q r n i w e l g h =
    let k : n - i ≡ suc (n - (i + 1)) = omega arith in
    rw (add-one i) (typed_two q r (typed r (from f (suc i) (n - suc i))) (f i ∷ []) (from f (suc i) (n - suc i)) (h ∙ ap (λ x. typed q (x ∷ [])) g) refl
    ∙ sym (ap (λ m. typed q (from f i m)) (k ∙ ap (λ m. suc (n - m)) (add-one i)))) ∙ e

pub records_end : (f : ℕ → ℕ) (p q : Page ℕ) (n i : ℕ) → typed q (from f i (n - i)) ≡ typed p (tabulate n f) → n ≤ i → q ≡ typed p (tabulate n f)
unfolding from typed
records_end f p q n i e l = let k : n - i ≡ 0 = omega arith in sym (ap (λ m. typed q (from f i m)) k) ∙ e

-- what is read into event space is the events' numbers
pub items_put : (items after : List ℕ) (job : Job) (p r : Page ℕ) → read_with job after ≡ job_of items (replicate job_room 0)
    → r ≡ typed p (tabulate job.events (record_in after)) → r ≡ typed p (item_numbers items)
unfolding job_of job_answer item_numbers
items_put items after job p r h k = go (replicate job_room 0) h (length-replicate {A = ℕ} job_room 0)
  where
    go : (space : List ℕ) → read_with job after ≡ job_of items space → length space ≡ job_room → r ≡ typed p (item_numbers items)
    go space h l =
        let es : List Event = job_events items (length space) in
        let n : job.events ≡ length (map event_number es) = ap (λ x. x.answer.events) h ∙ sym (length-map es event_number) in
        let s : after ≡ long_bytes (map event_number es) ++ drop (length es * 4) space = ap (λ x. x.space) h in
        k ∙ ap (typed p) (ap (λ m. tabulate m (record_in after)) n ∙ ap (λ x. tabulate (length (map event_number es)) (record_in x)) s
        ∙ records_back (map event_number es) (drop (length es * 4) space) ∙ ap (λ m. map event_number (job_events items m)) l)

-- where they are refused there are none
pub items_none : (items after : List ℕ) (f : Fault) (p : Page ℕ) → read_with (job_with (Err f)) after ≡ job_of items (replicate job_room 0) → p ≡ typed p (item_numbers items)
unfolding job_with from
items_none items after f p h = items_put items after (job_with (Err f)) p p h (sym (typed_none p))

pub items_some : (items after : List ℕ) (n : ℕ) (p r : Page ℕ) → read_with (job_with (Ok n)) after ≡ job_of items (replicate job_room 0)
    → r ≡ typed p (tabulate n (record_in after)) → r ≡ typed p (item_numbers items)
unfolding job_with
items_some items after n p r h k = items_put items after (job_with (Ok n)) p r h k

-- ---- loops over the lines

-- the line of a turn, with its number
pub turned : (ls : List (List ℕ)) (k i : ℕ) (b : List ℕ) → (k < length (enumerate_from 0 ls)) × ((i, b) ≡ get_or (enumerate_from 0 ls) k (i, b))
    → (k < length ls) × (i ≡ k) × (b ≡ get_or ls k b)
turned ls k i b (l, e) =
    let m : k < length ls = omega (arith, l, length-enumerate_from 0 ls) in
    let p : (i, b) ≡ (0 + k, get_or ls k b) = e ∙ get_or-enumerate_from 0 ls k (i, b) m in
    (m, omega (arith, ap (λ (x : ℕ × List ℕ). x.0) p), ap (λ (x : ℕ × List ℕ). x.1) p)

-- what is left from line k on, after what was done, makes the whole

module _ (ls : List (List ℕ)) (k : ℕ) (b : List ℕ) (l : k < length ls) (e : b ≡ get_or ls k b) where
  -- the line that comes next
  here : drop k ls ≡ b ∷ drop (suc k) ls
  here = drop-cons ls k b l ∙ ap (λ x. x ∷ drop (suc k) ls) (sym e)

  -- the records of a part
  pub collect_next : (part : ℕ) (p q r : Page ℕ) → typed q (records_of part (drop k ls)) ≡ typed p (records_of part ls) → r ≡ typed q (of_part part (line_of b) (items_of b))
      → typed r (records_of part (drop (k + 1) ls)) ≡ typed p (records_of part ls)
  unfolding records_of
  collect_next part p q r h g = rw (add-one k)
      (typed_two q r (typed r (records_of part (drop (suc k) ls))) (of_part part (line_of b) (items_of b)) (records_of part (drop (suc k) ls)) g refl
      ∙ sym (ap (λ x. typed q (records_of part x)) here) ∙ h)

  now : map line_of (drop k ls) ≡ line_of b ∷ map line_of (drop (suc k) ls)
  now = ap (map line_of) here

  -- the first line with a mistake, n lines being passed
  pub wrong_next : (n : ℕ) (t : Bool) → first_wrong n (map line_of (drop k ls)) ≡ first_wrong 0 (map line_of ls) → t ≡ is_wrong (line_of b) → t ≡ false
      → first_wrong (n + 1) (map line_of (drop (k + 1) ls)) ≡ first_wrong 0 (map line_of ls)
  unfolding first_wrong
  wrong_next n t h g f = rw (add-one n) (rw (add-one k) (sym (ap (first_wrong n) now ∙ if_false (is_wrong (line_of b)) _ _ (sym g ∙ f)) ∙ h))

  pub wrong_found : (n : ℕ) (t : Bool) → first_wrong n (map line_of (drop k ls)) ≡ first_wrong 0 (map line_of ls) → t ≡ is_wrong (line_of b) → t ≡ true
      → Some (n + 1, line_of b) ≡ first_wrong 0 (map line_of ls)
  unfolding first_wrong
  wrong_found n t h g f = rw (add-one n) (sym (ap (first_wrong n) now ∙ if_true (is_wrong (line_of b)) _ _ (sym g ∙ f)) ∙ h)

  -- the line of a record
  module _ (part k' left n count : ℕ) (h : line_of_record part left n (map line_of (drop k ls)) ≡ line_of_record part k' 0 (map line_of ls))
      (s : count ≡ count_in part (line_of b)) where
    pub record_found : left < count → n + 1 ≡ line_of_record part k' 0 (map line_of ls)
    unfolding line_of_record
    record_found l = rw (add-one n) (sym (ap (line_of_record part left n) now ∙ if_true (ltb left (count_in part (line_of b))) _ _ (lt-ltb left (count_in part (line_of b)) (omega (arith, s)))) ∙ h)

    pub record_passed : count ≤ left → line_of_record part (left - count) (n + 1) (map line_of (drop (k + 1) ls)) ≡ line_of_record part k' 0 (map line_of ls)
    unfolding line_of_record
    record_passed l = rw (add-one n) (rw (add-one k)
        (ap (λ c. line_of_record part (left - c) (suc n) (map line_of (drop (suc k) ls))) s
        ∙ sym (ap (line_of_record part left n) now ∙ if_false (ltb left (count_in part (line_of b))) _ _ (le-ltb left (count_in part (line_of b)) (omega (arith, s)))) ∙ h))

-- at the end nothing is left
module _ (ls : List (List ℕ)) (k : ℕ) (l : k ≡ length ls) where
  none_left : drop k ls ≡ []
  none_left = drop_of_length-le ls (omega arith)

  pub collect_ends : (part : ℕ) (p q : Page ℕ) → typed q (records_of part (drop k ls)) ≡ typed p (records_of part ls) → q ≡ typed p (records_of part ls)
  unfolding records_of typed
  collect_ends part p q e = sym (ap (λ x. typed q (records_of part x)) none_left) ∙ e

  pub wrong_ends : (n : ℕ) → first_wrong n (map line_of (drop k ls)) ≡ first_wrong 0 (map line_of ls) → None ≡ first_wrong 0 (map line_of ls)
  unfolding first_wrong
  wrong_ends n e = sym (ap (λ x. first_wrong n (map line_of x)) none_left) ∙ e

  pub record_ends : (part k' left n : ℕ) → line_of_record part left n (map line_of (drop k ls)) ≡ line_of_record part k' 0 (map line_of ls)
      → 0 ≡ line_of_record part k' 0 (map line_of ls)
  unfolding line_of_record
  record_ends part k' left n e = sym (ap (λ x. line_of_record part left n (map line_of x)) none_left) ∙ e
