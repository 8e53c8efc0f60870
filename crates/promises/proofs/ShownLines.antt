-- Each line that is shown reads as the record that it shows, or as nothing. Assumes nothing.
use mathlib.Core.Path.{◌≡◌, refl, sym, ◌∙◌, ap}
use mathlib.Core.Bool.{Bool, true, false, not, ◌&&◌}
use mathlib.Core.List.{List, [], ◌∷◌, ◌++◌, append_assoc, append-nil}
use Prim.Native.Nat.{ℕ, zero, suc, ◌+◌, ◌*◌, ◌≤◌, ◌<◌}
use native.Mathlib.Omega.{arith}
use lib.Dec.{eqb, leb, ltb}
use lib.ListN.{length, drop}
use borrow.Author.Tests.{eqb-true, not-false, ne_eqb, lt-leb}
use Rattle.rules.specs.Numbers.Capacity.{nobody, max_tasks, max_locks, max_uses, max_events, max_accepted, max_takes}
use Rattle.rules.specs.Numbers.Verdict.{Verdict}
use Rattle.rules.specs.Numbers.Place.{at}
use Rattle.rules.specs.Numbers.Refusal.{number_of}
use Rattle.rules.specs.Books.Event.{kind_of, id_of, amount_of, event_fault, event_of, record_kind, record_id, record_amount, number_fault, number_event, event_number}
use Rattle.rules.specs.Books.Load.{task_base, task_maximum, lock_ceiling, lock_second, lock_limit, use_task, use_lock}
use Rattle.rules.specs.declared.event.Event.{Event}
use Rattle.rules.specs.declared.refusal.Refusal.{Refusal}
use Rattle.rules.proofs.Numbers.Choice.{if_true, if_false, by_test, and_true, true_and, untrue, either}
use Rattle.page.specs.Ascii.{ascii}
use Rattle.page.specs.Decimal.{digits}
use Rattle.page.specs.Says.{mark, filled}
use Rattle.texts.specs.Cut.{newline, space, hash, same, until, spaces_of}
use Rattle.texts.specs.Kind.{event_named, kind_named, fields_of, most_of, part_of, record_of, has_items}
use Rattle.texts.specs.Line.{named_line}
use Rattle.texts.specs.Lines.{read_lines}
use Rattle.texts.specs.declared.kind.Kind.{Kind}
use Rattle.std.specs.Prelude.{Some, Ok, Err, if◌then◌else◌}
use Rattle.texts.specs.declared.line.Line.{Line}
use Rattle.wording.specs.Meaning.{meaning_of}
use Rattle.wording.specs.Records.{task_line, lock_line, use_line, event_words, event_line, ran_comment, refused_comment, unreached}
use Rattle.office.specs.Show.{stop_comment, comment_of}
use Rattle.promises.proofs.Digits.{all, all_append, all_cons}
use Rattle.promises.proofs.LinesRead.{quiet, bare, solid, digits_quiet, digits_bare, digits_trim, Reads, reads_line, comment_blank, record_line, two_read, one_read}
use Rattle.promises.proofs.LinesRead.{none_read}

-- ---- a text that ends with its one newline

pub record Ends (t : List ℕ) : Type 0 where
  pub front : List ℕ
  pub shape : t ≡ front ++ newline ∷ []
  pub still : all quiet front ≡ true

ends_none : Ends (newline ∷ [])
unfolding all
ends_none = record { front = []; shape = refl; still = refl }

pub ends_after : (x t : List ℕ) → all quiet x ≡ true → Ends t → Ends (x ++ t)
ends_after x t h E = record {
  front = x ++ E.front;
  shape = ap (λ y. x ++ y) E.shape ∙ sym (append_assoc x E.front (newline ∷ []));
  still = all_append quiet x E.front h E.still;
}

ends_byte : (c : ℕ) (t : List ℕ) → quiet c ≡ true → Ends t → Ends (c ∷ t)
unfolding all
ends_byte c t h E = record { front = c ∷ E.front; shape = ap (λ y. c ∷ y) E.shape; still = true_and (quiet c) (all quiet E.front) h E.still }

-- a sentence that ends so, whatever its numbers are
unfoldable pub nothing : List ℕ → Bool
nothing [] = true
nothing (c ∷ cs) = false

unfoldable pub last_line : List ℕ → Bool
last_line [] = false
last_line (c ∷ cs) = if eqb c newline then nothing cs else quiet c && last_line cs

no_more : (cs : List ℕ) → nothing cs ≡ true → cs ≡ []
unfolding nothing
no_more [] h = refl
no_more (c ∷ cs) h = untrue (sym h)

-- a byte that is no mark stays
pub filled_byte : (c : ℕ) (cs ns : List ℕ) → eqb c mark ≡ false → filled (c ∷ cs) ns ≡ c ∷ filled cs ns
unfolding filled
filled_byte c cs ns h = if_false (eqb c mark) _ _ h

filled_none : (ns : List ℕ) → filled [] ns ≡ []
unfolding filled
filled_none ns = refl

mark_or : (P : List ℕ → Type 0) (c : ℕ) (cs ns : List ℕ) → P (digits (at ns 0) ++ filled cs (drop 1 ns)) → P (c ∷ filled cs ns) → P (filled (c ∷ cs) ns)
unfolding filled
mark_or P c cs ns h g = either P (eqb c mark) (digits (at ns 0) ++ filled cs (drop 1 ns)) (c ∷ filled cs ns) h g

pub filled_ends : (text ns : List ℕ) → last_line text ≡ true → Ends (filled text ns)
unfolding last_line
filled_ends [] ns h = untrue (sym h)
filled_ends (c ∷ cs) ns h = by_test (eqb c newline)
    (λ e. let n : cs ≡ [] = no_more cs (sym (if_true (eqb c newline) _ _ e) ∙ h) in
    rw (eqb-true c newline e, n, filled_byte newline [] ns refl, filled_none ns) ends_none)
    (λ e. let (a, b) = and_true (quiet c) (last_line cs) (sym (if_false (eqb c newline) _ _ e) ∙ h) in
    mark_or Ends c cs ns
    (ends_after (digits (at ns 0)) (filled cs (drop 1 ns)) (digits_quiet (at ns 0)) (filled_ends cs (drop 1 ns) b))
    (ends_byte c (filled cs ns) a (filled_ends cs ns b)))

-- and one without a newline
pub filled_quiet : (text ns : List ℕ) → all quiet text ≡ true → all quiet (filled text ns) ≡ true
unfolding all filled
filled_quiet [] ns h = refl
filled_quiet (c ∷ cs) ns h =
    let (a, b) = and_true (quiet c) (all quiet cs) h in
    mark_or (λ t. all quiet t ≡ true) c cs ns
    (all_append quiet (digits (at ns 0)) (filled cs (drop 1 ns)) (digits_quiet (at ns 0)) (filled_quiet cs (drop 1 ns) b))
    (true_and (quiet c) (all quiet (filled cs ns)) a (filled_quiet cs ns b))

-- ---- lines by their shape

-- a comment alone
pub reads_comment : (t : List ℕ) → Ends t → Reads (hash ∷ t) (Line.Blank ∷ [])
reads_comment t E rest =
    let q : all quiet (hash ∷ E.front) ≡ true = all_cons quiet hash E.front refl E.still in
    ap (λ x. read_lines ((hash ∷ x) ++ rest)) E.shape ∙ reads_line (hash ∷ E.front) q rest ∙ ap (λ l. l ∷ read_lines rest) (comment_blank E.front q)

-- a name that a record has, which is no job
pub record Name (name : List ℕ) (kind : Kind) : Type 0 where
  pub is : kind_named name ≡ Some kind
  pub some : 0 < length name
  pub still : all quiet name ≡ true
  pub bares : all bare name ≡ true
  pub solids : all solid name ≡ true
  pub alone : has_items kind ≡ false

module _ (name : List ℕ) (kind : Kind) (N : Name name kind) (t : List ℕ) (E : Ends t) where
  -- a line with the bytes xs between its name and its comment
  shaped : (xs : List ℕ) (l : Line) → all quiet xs ≡ true → all bare xs ≡ true → spaces_of xs ≡ 0 → named_line (Some kind) xs ≡ l
      → Reads ((name ++ space ∷ (xs ++ hash ∷ E.front)) ++ newline ∷ []) (l ∷ [])
  shaped xs l q b s e rest =
      let whole : all quiet (name ++ space ∷ (xs ++ hash ∷ E.front)) ≡ true = all_append quiet name (space ∷ (xs ++ hash ∷ E.front)) N.still
      (all_cons quiet space (xs ++ hash ∷ E.front) refl (all_append quiet xs (hash ∷ E.front) q (all_cons quiet hash E.front refl E.still))) in
      reads_line (name ++ space ∷ (xs ++ hash ∷ E.front)) whole rest
      ∙ ap (λ x. x ∷ read_lines rest) (record_line name xs E.front whole N.some N.bares N.solids b s ∙ ap (λ n. named_line n xs) N.is ∙ e)

  pub reads_two_numbers : (a b : ℕ) → fields_of kind ≡ 2 → a ≤ most_of kind 0 → b ≤ most_of kind 1 → a < 65536 → b < 65536
      → Reads (name ++ space ∷ (digits a ++ space ∷ (digits b ++ space ∷ hash ∷ t))) (Line.Record (part_of kind) (record_of kind a b) ∷ [])
  unfolding all
  reads_two_numbers a b f ha hb sa sb rest =
      ap (λ x. read_lines (x ++ rest)) (ap (λ x. name ++ space ∷ x) form ∙ sym (append_assoc name (space ∷ (xs ++ hash ∷ E.front)) (newline ∷ [])))
      ∙ shaped xs (Line.Record (part_of kind) (record_of kind a b)) quiets bares (digits_trim a (space ∷ (digits b ++ space ∷ []))) (two_read kind a b N.alone f ha hb sa sb) rest
    where
      xs : List ℕ
      xs = digits a ++ space ∷ (digits b ++ space ∷ [])

      form : digits a ++ space ∷ (digits b ++ space ∷ hash ∷ t) ≡ (xs ++ hash ∷ E.front) ++ newline ∷ []
      form = ap (λ y. digits a ++ space ∷ (digits b ++ space ∷ hash ∷ y)) E.shape
          ∙ ap (λ y. digits a ++ space ∷ y) (sym (append_assoc (digits b) (space ∷ []) (hash ∷ (E.front ++ newline ∷ []))))
          ∙ sym (append_assoc (digits a) (space ∷ (digits b ++ space ∷ [])) (hash ∷ (E.front ++ newline ∷ [])))
          ∙ sym (append_assoc xs (hash ∷ E.front) (newline ∷ []))

      quiets : all quiet xs ≡ true
      quiets = all_append quiet (digits a) (space ∷ (digits b ++ space ∷ [])) (digits_quiet a)
          (all_cons quiet space (digits b ++ space ∷ []) refl (all_append quiet (digits b) (space ∷ []) (digits_quiet b) refl))

      bares : all bare xs ≡ true
      bares = all_append bare (digits a) (space ∷ (digits b ++ space ∷ [])) (digits_bare a)
          (all_cons bare space (digits b ++ space ∷ []) refl (all_append bare (digits b) (space ∷ []) (digits_bare b) refl))

  pub reads_one_number : (a : ℕ) → fields_of kind ≡ 1 → a ≤ most_of kind 0 → a < 65536
      → Reads (name ++ space ∷ (digits a ++ space ∷ hash ∷ t)) (Line.Record (part_of kind) (record_of kind a 0) ∷ [])
  unfolding all
  reads_one_number a f ha sa rest =
      ap (λ x. read_lines (x ++ rest)) (ap (λ x. name ++ space ∷ x) form ∙ sym (append_assoc name (space ∷ (xs ++ hash ∷ E.front)) (newline ∷ [])))
      ∙ shaped xs (Line.Record (part_of kind) (record_of kind a 0)) quiets bares (digits_trim a (space ∷ [])) (one_read kind a N.alone f ha sa) rest
    where
      xs : List ℕ
      xs = digits a ++ space ∷ []

      form : digits a ++ space ∷ hash ∷ t ≡ (xs ++ hash ∷ E.front) ++ newline ∷ []
      form = ap (λ y. digits a ++ space ∷ hash ∷ y) E.shape
          ∙ sym (append_assoc (digits a) (space ∷ []) (hash ∷ (E.front ++ newline ∷ [])))
          ∙ sym (append_assoc xs (hash ∷ E.front) (newline ∷ []))

      quiets : all quiet xs ≡ true
      quiets = all_append quiet (digits a) (space ∷ []) (digits_quiet a) refl

      bares : all bare xs ≡ true
      bares = all_append bare (digits a) (space ∷ []) (digits_bare a) refl

  pub reads_no_number : fields_of kind ≡ 0 → Reads (name ++ space ∷ hash ∷ t) (Line.Record (part_of kind) (record_of kind 0 0) ∷ [])
  unfolding all spaces_of until
  reads_no_number f rest =
      ap (λ x. read_lines (x ++ rest)) (ap (λ y. name ++ space ∷ hash ∷ y) E.shape ∙ sym (append_assoc name (space ∷ hash ∷ E.front) (newline ∷ [])))
      ∙ shaped [] (Line.Record (part_of kind) (record_of kind 0 0)) refl refl refl (none_read kind N.alone f) rest

-- ---- the names

task_name : Name (ascii "task") Kind.Task
unfolding ascii kind_named same all has_items
task_name = record { is = refl; some = omega arith; still = refl; bares = refl; solids = refl; alone = refl }

lock_name : Name (ascii "lock") Kind.Lock
unfolding ascii kind_named same all has_items
lock_name = record { is = refl; some = omega arith; still = refl; bares = refl; solids = refl; alone = refl }

use_name : Name (ascii "use") Kind.Use
unfolding ascii kind_named same all has_items
use_name = record { is = refl; some = omega arith; still = refl; bares = refl; solids = refl; alone = refl }

release_name : Name (ascii "release") Kind.Release
unfolding ascii kind_named event_named same all has_items
release_name = record { is = refl; some = omega arith; still = refl; bares = refl; solids = refl; alone = refl }

acquire_name : Name (ascii "acquire") Kind.Acquire
unfolding ascii kind_named event_named same all has_items
acquire_name = record { is = refl; some = omega arith; still = refl; bares = refl; solids = refl; alone = refl }

unlock_name : Name (ascii "unlock") Kind.Unlock
unfolding ascii kind_named event_named same all has_items
unlock_name = record { is = refl; some = omega arith; still = refl; bares = refl; solids = refl; alone = refl }

work_name : Name (ascii "work") Kind.Work
unfolding ascii kind_named event_named same all has_items
work_name = record { is = refl; some = omega arith; still = refl; bares = refl; solids = refl; alone = refl }

finish_name : Name (ascii "finish") Kind.Finish
unfolding ascii kind_named event_named same all has_items
finish_name = record { is = refl; some = omega arith; still = refl; bares = refl; solids = refl; alone = refl }

tick_name : Name (ascii "tick") Kind.Tick
unfolding ascii kind_named event_named same all has_items
tick_name = record { is = refl; some = omega arith; still = refl; bares = refl; solids = refl; alone = refl }

-- ---- tasks, locks and uses

-- the number of the record, in a comment
counted : (k : ℕ) → Ends (filled (ascii " @\n") (k ∷ []))
unfolding ascii last_line nothing
counted k = filled_ends (ascii " @\n") (k ∷ []) refl

pub reads_task : (k w : ℕ) → w < 65536 → Reads (task_line k w) (Line.Record 0 w ∷ [])
unfolding task_line ascii filled fields_of most_of part_of record_of
reads_task k w l rest =
    let e : task_base w + task_maximum w * 256 ≡ w = omega arith in
    reads_two_numbers (ascii "task") Kind.Task task_name (filled (ascii " @\n") (k ∷ [])) (counted k) (task_base w) (task_maximum w) refl
    (omega arith) (omega arith) (omega arith) (omega arith) rest
    ∙ ap (λ x. Line.Record 0 x ∷ read_lines rest) e

pub reads_use : (k w : ℕ) → w < 65536 → Reads (use_line k w) (Line.Record 2 w ∷ [])
unfolding use_line ascii filled fields_of most_of part_of record_of
reads_use k w l rest =
    let e : use_task w + use_lock w * 256 ≡ w = omega arith in
    reads_two_numbers (ascii "use") Kind.Use use_name (filled (ascii " @\n") (k ∷ [])) (counted k) (use_task w) (use_lock w) refl
    (omega arith) (omega arith) (omega arith) (omega arith) rest
    ∙ ap (λ x. Line.Record 2 x ∷ read_lines rest) e

lock_words : (k w : ℕ) → w < 4294967296 → lock_second w ≡ 0 → Reads (filled (ascii "lock @ @ # @\n") (lock_ceiling w ∷ lock_limit w ∷ k ∷ [])) (Line.Record 1 w ∷ [])
unfolding ascii filled fields_of most_of part_of record_of
lock_words k w l z rest =
    let e : lock_ceiling w + lock_limit w * 65536 ≡ w = omega arith in
    reads_two_numbers (ascii "lock") Kind.Lock lock_name (filled (ascii " @\n") (k ∷ [])) (counted k) (lock_ceiling w) (lock_limit w) refl
    (omega arith) (omega arith) (omega arith) (omega arith) rest
    ∙ ap (λ x. Line.Record 1 x ∷ read_lines rest) e

pub reads_lock : (k w : ℕ) → w < 4294967296 → lock_second w ≡ 0 → Reads (lock_line k w) (Line.Record 1 w ∷ [])
unfolding lock_line
reads_lock k w l z = rw (if_true (eqb (lock_second w) 0) _ _ (rw z refl)) (lock_words k w l z)

-- ---- an event

-- a comment of the shape that one after an event has
pub record Comment (c : List ℕ) : Type 0 where
  pub tail : List ℕ
  pub shape : c ≡ space ∷ hash ∷ tail
  pub ends : Ends tail

module _ (c : List ℕ) (C : Comment c) where
  -- words with one number, and without any
  numbered : (name : List ℕ) (kind : Kind) → Name name kind → (a : ℕ) → fields_of kind ≡ 1 → a ≤ most_of kind 0 → a < 65536
      → Reads ((name ++ space ∷ (digits a ++ [])) ++ c) (Line.Record (part_of kind) (record_of kind a 0) ∷ [])
  numbered name kind N a f h s rest =
      ap (λ x. read_lines (x ++ rest)) (append_assoc name (space ∷ (digits a ++ [])) c ∙ ap (λ x. name ++ space ∷ x) (ap (λ x. x ++ c) (append-nil (digits a))
      ∙ ap (λ x. digits a ++ x) C.shape))
      ∙ reads_one_number name kind N C.tail C.ends a f h s rest

  unnumbered : (name : List ℕ) (kind : Kind) → Name name kind → fields_of kind ≡ 0 → Reads (name ++ c) (Line.Record (part_of kind) (record_of kind 0 0) ∷ [])
  unnumbered name kind N f rest = ap (λ x. read_lines ((name ++ x) ++ rest)) C.shape ∙ reads_no_number name kind N C.tail C.ends f rest

  -- the six of them
  pub reads_words : (e : Event) → id_of e < 256 → amount_of e < 65536 → Reads (event_words e ++ c) (Line.Record 3 (event_number e) ∷ [])
  unfolding event_words ascii filled fields_of most_of part_of record_of kind_of id_of amount_of
  reads_words (Event.Release t) h g = numbered (ascii "release") Kind.Release release_name t refl (omega arith) (omega arith)
  reads_words (Event.Acquire l) h g = numbered (ascii "acquire") Kind.Acquire acquire_name l refl (omega arith) (omega arith)
  reads_words (Event.Unlock l) h g = numbered (ascii "unlock") Kind.Unlock unlock_name l refl (omega arith) (omega arith)
  reads_words (Event.Work a) h g = numbered (ascii "work") Kind.Work work_name a refl (omega arith) (omega arith)
  reads_words Event.Finish h g = unnumbered (ascii "finish") Kind.Finish finish_name refl
  reads_words Event.Tick h g = unnumbered (ascii "tick") Kind.Tick tick_name refl

-- the record of an event that 8 lets pass is the event's
record Same (kind id amount : ℕ) : Type 0 where
  same_kind : kind_of (event_of kind id amount) ≡ kind
  same_id : id_of (event_of kind id amount) ≡ id
  same_amount : amount_of (event_of kind id amount) ≡ amount

above : (kind id amount : ℕ) → 6 < kind → event_fault kind id amount ≡ true
unfolding event_fault
above kind id amount l =
    if_false (eqb kind 0) _ _ (ne_eqb kind 0 (λ e. omega (arith, l, e))) ∙ if_false (leb kind 3) _ _ (lt-leb kind 3 (omega arith))
    ∙ if_false (eqb kind 4) _ _ (ne_eqb kind 4 (λ e. omega (arith, l, e))) ∙ if_false (leb kind 6) _ _ (lt-leb kind 6 (omega arith))

same_event : (kind id amount : ℕ) → event_fault kind id amount ≡ false → Same kind id amount
unfolding event_fault event_of kind_of id_of amount_of
same_event zero id amount h = untrue h
same_event (suc zero) id amount h = record { same_kind = refl; same_id = refl; same_amount = sym (eqb-true amount 0 (not-false (eqb amount 0) h)) }
same_event (suc (suc zero)) id amount h = record { same_kind = refl; same_id = refl; same_amount = sym (eqb-true amount 0 (not-false (eqb amount 0) h)) }
same_event (suc (suc (suc zero))) id amount h = record { same_kind = refl; same_id = refl; same_amount = sym (eqb-true amount 0 (not-false (eqb amount 0) h)) }
same_event (suc (suc (suc (suc zero)))) id amount h = by_test (eqb id 0)
    (λ e. record { same_kind = refl; same_id = sym (eqb-true id 0 e); same_amount = refl })
    (λ e. untrue (sym (if_false (eqb id 0) (eqb amount 0) true e) ∙ h))
same_event (suc (suc (suc (suc (suc zero))))) id amount h = by_test (eqb id 0)
    (λ e. record { same_kind = refl; same_id = sym (eqb-true id 0 e); same_amount = sym (eqb-true amount 0 (not-false (eqb amount 0) (sym (if_true (eqb id 0) _ _ e) ∙ h))) })
    (λ e. untrue (sym (if_false (eqb id 0) (not (eqb amount 0)) true e) ∙ h))
same_event (suc (suc (suc (suc (suc (suc zero)))))) id amount h = by_test (eqb id 0)
    (λ e. record { same_kind = refl; same_id = sym (eqb-true id 0 e); same_amount = sym (eqb-true amount 0 (not-false (eqb amount 0) (sym (if_true (eqb id 0) _ _ e) ∙ h))) })
    (λ e. untrue (sym (if_false (eqb id 0) (not (eqb amount 0)) true e) ∙ h))
same_event (suc (suc (suc (suc (suc (suc (suc k))))))) id amount h = untrue (sym (above (suc (suc (suc (suc (suc (suc (suc k))))))) id amount (omega arith)) ∙ h)

-- its task or lock is a byte, and two bytes hold its units
pub event_figures : (w : ℕ) → w < 4294967296 → number_fault w ≡ false → (id_of (number_event w) < 256) × (amount_of (number_event w) < 65536)
unfolding number_fault number_event
event_figures w l h =
    let S : Same (record_kind w) (record_id w) (record_amount w) = same_event (record_kind w) (record_id w) (record_amount w) h in
    (omega (arith, S.same_id), omega (arith, S.same_amount))

pub reads_event : (w : ℕ) (c : List ℕ) → Comment c → w < 4294967296 → number_fault w ≡ false → Reads (event_line w c) (Line.Record 3 w ∷ [])
unfolding event_line number_fault number_event
reads_event w c C l h rest =
    let S : Same (record_kind w) (record_id w) (record_amount w) = same_event (record_kind w) (record_id w) (record_amount w) h in
    let n : event_number (number_event w) ≡ w = omega (arith, S.same_kind, S.same_id, S.same_amount) in
    ap (λ x. read_lines (x ++ rest)) (if_false (number_fault w) _ _ h)
    ∙ reads_words c C (number_event w) (omega (arith, S.same_id)) (omega (arith, S.same_amount)) rest
    ∙ ap (λ x. Line.Record 3 x ∷ read_lines rest) n

-- ---- its comment

comment_shape : (cs ns : List ℕ) → filled (space ∷ hash ∷ cs) ns ≡ space ∷ hash ∷ filled cs ns
comment_shape cs ns = filled_byte space (hash ∷ cs) ns refl ∙ ap (λ x. space ∷ x) (filled_byte hash cs ns refl)

as_comment : (cs ns : List ℕ) → last_line cs ≡ true → Comment (filled (space ∷ hash ∷ cs) ns)
as_comment cs ns h = record { tail = filled cs ns; shape = comment_shape cs ns; ends = filled_ends cs ns h }

unreached_so : (n : ℕ) → Comment (unreached n)
unfolding unreached ascii last_line nothing
unreached_so n = as_comment (ascii " event @: not reached\n") (n ∷ []) refl

ran_so : (n task user : ℕ) → Comment (ran_comment n task user)
unfolding ran_comment ascii last_line nothing
ran_so n task user = either Comment (eqb task nobody) (filled (ascii " # event @: nobody runs\n") (n ∷ task ∷ user ∷ []))
    (filled (ascii " # event @: task @ runs at @\n") (n ∷ task ∷ user ∷ []))
    (as_comment (ascii " event @: nobody runs\n") (n ∷ task ∷ user ∷ []) refl)
    (as_comment (ascii " event @: task @ runs at @\n") (n ∷ task ∷ user ∷ []) refl)

-- no meaning has a newline in it
pub meaning_quiet : (why : Refusal) → all quiet (meaning_of why) ≡ true
unfolding meaning_of ascii all
meaning_quiet Refusal.ShortBook = refl
meaning_quiet Refusal.WrongCount =
    filled_quiet (ascii "a book has 1 to @ tasks, and at most @ locks, @ uses and @ events") (max_tasks ∷ max_locks ∷ max_uses ∷ max_events ∷ []) refl
meaning_quiet Refusal.WrongLayout = refl
meaning_quiet Refusal.WrongTask = refl
meaning_quiet Refusal.WrongLock = refl
meaning_quiet Refusal.WrongUse = refl
meaning_quiet Refusal.WrongCeiling = refl
meaning_quiet Refusal.WrongEvent = refl
meaning_quiet Refusal.ShortRows = refl
meaning_quiet Refusal.Unsound = refl
meaning_quiet Refusal.Exhausted = filled_quiet (ascii "@ events were accepted already") (max_accepted ∷ []) refl
meaning_quiet Refusal.NobodyRuns = refl
meaning_quiet Refusal.Unknown = refl
meaning_quiet Refusal.AlreadyReleased = refl
meaning_quiet Refusal.NotDeclared = refl
meaning_quiet Refusal.OpenElsewhere = refl
meaning_quiet Refusal.RowFull = filled_quiet (ascii "the running task has @ takes that it has not given back") (max_takes ∷ []) refl
meaning_quiet Refusal.NotNewest = refl
meaning_quiet Refusal.NoWork = refl
meaning_quiet Refusal.PastLimit = refl
meaning_quiet Refusal.StillOpen = refl
meaning_quiet Refusal.ShortBuffer = refl
meaning_quiet Refusal.AboveMaximum = refl
meaning_quiet Refusal.WrongJob = refl
meaning_quiet Refusal.ShortSpace = refl

refused_so : (n : ℕ) (why : Refusal) → Comment (refused_comment n why)
unfolding refused_comment ascii all
refused_so n why = record {
  tail = filled (ascii " event @: refused @: ") (n ∷ number_of why ∷ []) ++ meaning_of why ++ newline ∷ [];
  shape = ap (λ x. x ++ meaning_of why ++ newline ∷ []) (comment_shape (ascii " event @: refused @: ") (n ∷ number_of why ∷ []));
  ends = rw (append_assoc (filled (ascii " event @: refused @: ") (n ∷ number_of why ∷ [])) (meaning_of why) (newline ∷ []))
      (ends_after (filled (ascii " event @: refused @: ") (n ∷ number_of why ∷ [])) (meaning_of why ++ newline ∷ [])
      (filled_quiet (ascii " event @: refused @: ") (n ∷ number_of why ∷ []) refl) (ends_after (meaning_of why) (newline ∷ []) (meaning_quiet why) ends_none));
}

stop_so : (v : Verdict) (n : ℕ) → Comment (stop_comment v n)
unfolding stop_comment
stop_so (Ok _) n = unreached_so n
stop_so (Err f) n = refused_so n f.why

pub comment_so : (v : Verdict) (a : ℕ) (rows : List ℕ) (k : ℕ) → Comment (comment_of v a rows k)
unfolding comment_of
comment_so v a rows k = either Comment (ltb k a) (ran_comment (k + 1) (at rows (k * 4)) (at rows (k * 4 + 1))) _ (ran_so (k + 1) (at rows (k * 4)) (at rows (k * 4 + 1)))
    (either Comment (eqb k a) (stop_comment v (k + 1)) (unreached (k + 1)) (stop_so v (k + 1)) (unreached_so (k + 1)))
