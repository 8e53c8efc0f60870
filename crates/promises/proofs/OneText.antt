-- Of every function that another crate can call for texts, jobs and their words: any two results that its contract allows for the same arguments are equal. a are
-- the arguments, b and c what is lent as it was left. Assumes nothing.
use mathlib.Core.Path.{◌≡◌, sym, ◌∙◌, ap}
use mathlib.Core.Bool.{Bool}
use mathlib.Core.List.{List}
use Prim.Native.Nat.{ℕ}
use contract.Lifetimes.{Lfts}
use Rattle.std.specs.Prelude.{Option, Result}
use Rattle.rules.specs.declared.event.Event.{Event}
use Rattle.book.specs.declared.look.Entry.{Entry}
use Rattle.jobs.specs.Job.{ReadInto}
use Rattle.jobs.proofs.Answers.{job_same}
use Rattle.rules.specs.declared.answer.Fault.{Fault}
use Rattle.texts.specs.declared.kind.Kind.{Kind}
use Rattle.texts.specs.declared.number.Mistake.{Mistake}
use Rattle.texts.specs.declared.line.Line.{Line}
use Rattle.office.specs.Answered.{Answered, page, answered}
use Rattle.office.specs.declared.compose.Made.{Made}
use Rattle.page.proofs.Page.new.Reads as new
use Rattle.page.proofs.Page.at.Reads as at_lem
use Rattle.page.proofs.Page.place.Reads as place
use Rattle.page.proofs.Page.put.Reads as put
use Rattle.page.proofs.Page.put_text.Reads as put-text
use Rattle.page.proofs.Page.put_number.Reads as put-number
use Rattle.page.proofs.Page.put_field.Reads as put-field
use Rattle.page.proofs.Page.put_says.Reads as put-says
use Rattle.wording.proofs.meaning.put_meaning.Reads as said-put-meaning
use Rattle.wording.proofs.mistake.put_mistake.Reads as said-put-mistake
use Rattle.wording.proofs.mistake.put_meaning_line.Reads as said-put-meaning-line
use Rattle.wording.proofs.mistake.put_refusal.Reads as said-put-refusal
use Rattle.wording.proofs.mistake.put_refusal_at.Reads as said-put-refusal-at
use Rattle.wording.proofs.record.put_task.Reads as said-put-task
use Rattle.wording.proofs.record.put_use.Reads as said-put-use
use Rattle.wording.proofs.record.put_lock.Reads as said-put-lock
use Rattle.wording.proofs.record.put_event.Reads as said-put-event
use Rattle.wording.proofs.record.put_no_event.Reads as said-put-no-event
use Rattle.wording.proofs.record.put_ran.Reads as said-put-ran
use Rattle.wording.proofs.record.put_refused.Reads as said-put-refused
use Rattle.wording.proofs.record.put_unreached.Reads as said-put-unreached
use Rattle.wording.proofs.record.put_size.Reads as said-put-size
use Rattle.wording.proofs.record.put_entry.Reads as said-put-entry
use Rattle.wording.proofs.reason.put_call.Reads as said-put-call
use Rattle.wording.proofs.reason.put_stop.Reads as said-put-stop
use Rattle.wording.proofs.reason.put_reason.Reads as said-put-reason
use Rattle.report.proofs.row.running.Reads as row_running
use Rattle.report.proofs.row.user.Reads as row_user
use Rattle.report.proofs.row.next.Reads as row_next
use Rattle.report.proofs.row.call.Reads as row_call
use Rattle.book.proofs.record.number_fault.Reads as number-fault
use Rattle.book.proofs.record.number_event.Reads as number_event_lem
use Rattle.book.proofs.look.entry_at.Reads as book-entry-at
use Rattle.book.proofs.look.task.Reads as book-task
use Rattle.book.proofs.look.lock.Reads as book-lock
use Rattle.book.proofs.look.usage.Reads as book-usage
use Rattle.book.proofs.look.event.Reads as book-event
use Rattle.plan.proofs.count.most_of.Reads as most-of
use Rattle.texts.proofs.word.find.Reads as find
use Rattle.texts.proofs.word.spaces.Reads as spaces
use Rattle.texts.proofs.word.without_spaces.Reads as without-spaces
use Rattle.texts.proofs.word.same.Reads as same
use Rattle.texts.proofs.kind.kind_named.Reads as kind-named
use Rattle.texts.proofs.kind.fields.Reads as fields
use Rattle.texts.proofs.kind.most.Reads as most
use Rattle.texts.proofs.kind.part.Reads as part
use Rattle.texts.proofs.kind.has_items.Reads as has-items
use Rattle.texts.proofs.number.read_number.Reads as read_number
use Rattle.texts.proofs.line.line_of.Reads as Line-of
use Rattle.texts.proofs.line.items.Reads as items
use Rattle.jobs.proofs.check_job.Reads as check-job
use Rattle.jobs.proofs.read_job.Reads as read-job
use Rattle.jobs.proofs.record.record_at.Reads as record-at
use Rattle.texts.proofs.lines.first_wrong.Reads as first_wrong_lem
use Rattle.texts.proofs.lines.line_of_record.Reads as line-of-record
use Rattle.wording.proofs.mistake.number_of.Reads as said-number-of
use Rattle.texts.proofs.lines.collect.Reads as collect
use Rattle.office.proofs.compose.compose.Reads as compose
use Rattle.office.proofs.show.show.Reads as show
use Rattle.office.proofs.explain.explain.Reads as explain

-- ---- figures

pub one_row_running : (κs : Lfts 1) (a : _) (b c : _) (r q : ℕ) → row_running.Post κs a r b → row_running.Post κs a q c → r ≡ q
one_row_running κs a b c r q h k = h ∙ sym k

pub one_row_user : (κs : Lfts 1) (a : _) (b c : _) (r q : ℕ) → row_user.Post κs a r b → row_user.Post κs a q c → r ≡ q
one_row_user κs a b c r q h k = h ∙ sym k

pub one_row_next : (κs : Lfts 1) (a : _) (b c : _) (r q : ℕ) → row_next.Post κs a r b → row_next.Post κs a q c → r ≡ q
one_row_next κs a b c r q h k = h ∙ sym k

pub one_row_call : (κs : Lfts 1) (a : _) (b c : _) (r q : ℕ) → row_call.Post κs a r b → row_call.Post κs a q c → r ≡ q
one_row_call κs a b c r q h k = h ∙ sym k

pub one_number_fault : (a : _) (b c : _) (r q : Bool) → number-fault.Post tt a r b → number-fault.Post tt a q c → r ≡ q
one_number_fault a b c r q h k = h ∙ sym k

pub one_number_event : (a : _) (b c : _) (r q : Event) → number_event_lem.Post tt a r b → number_event_lem.Post tt a q c → r ≡ q
one_number_event a b c r q h k = h ∙ sym k

pub one_book_entry_at : (κs : Lfts 1) (a : _) (b c : _) (r q : Entry) → book-entry-at.Post κs a r b → book-entry-at.Post κs a q c → r ≡ q
one_book_entry_at κs a b c r q h k = h ∙ sym k

pub one_book_task : (κs : Lfts 1) (a : _) (b c : _) (r q : ℕ) → book-task.Post κs a r b → book-task.Post κs a q c → r ≡ q
one_book_task κs a b c r q h k = h ∙ sym k

pub one_book_lock : (κs : Lfts 1) (a : _) (b c : _) (r q : ℕ) → book-lock.Post κs a r b → book-lock.Post κs a q c → r ≡ q
one_book_lock κs a b c r q h k = h ∙ sym k

pub one_book_usage : (κs : Lfts 1) (a : _) (b c : _) (r q : ℕ) → book-usage.Post κs a r b → book-usage.Post κs a q c → r ≡ q
one_book_usage κs a b c r q h k = h ∙ sym k

pub one_book_event : (κs : Lfts 1) (a : _) (b c : _) (r q : ℕ) → book-event.Post κs a r b → book-event.Post κs a q c → r ≡ q
one_book_event κs a b c r q h k = h ∙ sym k

pub one_most_of : (a : _) (b c : _) (r q : ℕ) → most-of.Post tt a r b → most-of.Post tt a q c → r ≡ q
one_most_of a b c r q h k = h ∙ sym k

pub one_find : (κs : Lfts 1) (a : _) (b c : _) (r q : ℕ) → find.Post κs a r b → find.Post κs a q c → r ≡ q
one_find κs a b c r q h k = h.0 ∙ sym k.0

pub one_spaces : (κs : Lfts 1) (a : _) (b c : _) (r q : ℕ) → spaces.Post κs a r b → spaces.Post κs a q c → r ≡ q
one_spaces κs a b c r q h k = h.0 ∙ sym k.0

pub one_without_spaces : (κs : Lfts 1) (a : _) (b c : _) (r q : ℕ) → without-spaces.Post κs a r b → without-spaces.Post κs a q c → r ≡ q
one_without_spaces κs a b c r q h k = h.0 ∙ sym k.0

pub one_same : (κs : Lfts 2) (a : _) (b c : _) (r q : Bool) → same.Post κs a r b → same.Post κs a q c → r ≡ q
one_same κs a b c r q h k = h ∙ sym k

pub one_kind_named : (κs : Lfts 1) (a : _) (b c : _) (r q : Option Kind) → kind-named.Post κs a r b → kind-named.Post κs a q c → r ≡ q
one_kind_named κs a b c r q h k = h ∙ sym k

pub one_fields : (a : _) (b c : _) (r q : ℕ) → fields.Post tt a r b → fields.Post tt a q c → r ≡ q
one_fields a b c r q h k = h.0 ∙ sym k.0

pub one_most : (a : _) (b c : _) (r q : ℕ) → most.Post tt a r b → most.Post tt a q c → r ≡ q
one_most a b c r q h k = h.0 ∙ sym k.0

pub one_part : (a : _) (b c : _) (r q : ℕ) → part.Post tt a r b → part.Post tt a q c → r ≡ q
one_part a b c r q h k = h ∙ sym k

pub one_has_items : (a : _) (b c : _) (r q : Bool) → has-items.Post tt a r b → has-items.Post tt a q c → r ≡ q
one_has_items a b c r q h k = h ∙ sym k

pub one_read_number : (κs : Lfts 1) (a : _) (b c : _) (r q : Result ℕ Mistake) → read_number.Post κs a r b → read_number.Post κs a q c → r ≡ q
one_read_number κs a b c r q h k = h ∙ sym k

pub one_line_of : (κs : Lfts 1) (a : _) (b c : _) (r q : Line) → Line-of.Post κs a r b → Line-of.Post κs a q c → r ≡ q
one_line_of κs a b c r q h k = h ∙ sym k

pub one_items : (κs : Lfts 1) (a : _) (b c : _) (r q : _) → items.Post κs a r b → items.Post κs a q c → r.now ≡ q.now
one_items κs a b c r q h k = h ∙ sym k

pub one_first_wrong : (κs : Lfts 1) (a : _) (b c : _) (r q : Option (ℕ × Line)) → first_wrong_lem.Post κs a r b → first_wrong_lem.Post κs a q c → r ≡ q
one_first_wrong κs a b c r q h k = h ∙ sym k

pub one_line_of_record : (κs : Lfts 1) (a : _) (b c : _) (r q : ℕ) → line-of-record.Post κs a r b → line-of-record.Post κs a q c → r ≡ q
one_line_of_record κs a b c r q h k = h ∙ sym k

pub one_said_number_of : (a : _) (b c : _) (r q : ℕ) → said-number-of.Post tt a r b → said-number-of.Post tt a q c → r ≡ q
one_said_number_of a b c r q h k = h ∙ sym k

-- ---- jobs

pub one_check_job : (κs : Lfts 1) (a : _) (b c : _) (r q : Result ℕ Fault) → check-job.Post κs a r b → check-job.Post κs a q c → r ≡ q
one_check_job κs a b c r q h k = job_same r q (h.0 ∙ sym k.0)

pub one_read_job : (κs : Lfts 2) (a : _) (b c : _) (r q : Result ℕ Fault) → read-job.Post κs a r b → read-job.Post κs a q c → (r ≡ q) × (b.1.0.now ≡ c.1.0.now)
one_read_job κs a b c r q h k =
    (job_same r q (ap (λ (x : ReadInto). x.answer) (h ∙ sym k)), ap (λ (x : ReadInto). x.space) (h ∙ sym k))

pub one_record_at : (κs : Lfts 1) (a : _) (b c : _) (r q : ℕ) → record-at.Post κs a r b → record-at.Post κs a q c → r ≡ q
one_record_at κs a b c r q h k = h ∙ sym k

-- ---- words put on a page

-- of items of any type T, which t, u, v and d say can be copied
pub one_place : (T t u v d κs : _) (a : _) (b c : _) (r q : _) → place.Post T t u v d κs a r b → place.Post T t u v d κs a q c → r ≡ q
one_place T t u v d κs a b c r q h k = h ∙ sym k

pub one_new : (T t u v d κs : _) (a : _) (b c : _) (r q : _) → new.Post T t u v d κs a r b → new.Post T t u v d κs a q c → r ≡ q
one_new T t u v d κs a b c r q h k = h ∙ sym k

pub one_at : (T t u v d κs : _) (a : _) (b c : _) (r q : _) → at_lem.Post T t u v d κs a r b → at_lem.Post T t u v d κs a q c → r ≡ q
one_at T t u v d κs a b c r q h k = h ∙ sym k

pub one_put : (T t u v d κs : _) (a : _) (b c : _) (r q : _) → put.Post T t u v d κs a r b → put.Post T t u v d κs a q c → b.0.now ≡ c.0.now
one_put T t u v d κs a b c r q h k = h ∙ sym k

pub one_put_text : (κs : _) (a : _) (b c : _) (r q : _) → put-text.Post κs a r b → put-text.Post κs a q c → b.0.now ≡ c.0.now
one_put_text κs a b c r q h k = h ∙ sym k

pub one_put_number : (κs : _) (a : _) (b c : _) (r q : _) → put-number.Post κs a r b → put-number.Post κs a q c → b.0.now ≡ c.0.now
one_put_number κs a b c r q h k = h ∙ sym k

pub one_put_field : (κs : _) (a : _) (b c : _) (r q : _) → put-field.Post κs a r b → put-field.Post κs a q c → b.0.now ≡ c.0.now
one_put_field κs a b c r q h k = h ∙ sym k

pub one_put_says : (κs : _) (a : _) (b c : _) (r q : _) → put-says.Post κs a r b → put-says.Post κs a q c → b.0.now ≡ c.0.now
one_put_says κs a b c r q h k = h ∙ sym k

pub one_said_put_meaning : (κs : _) (a : _) (b c : _) (r q : _) → said-put-meaning.Post κs a r b → said-put-meaning.Post κs a q c → b.0.now ≡ c.0.now
one_said_put_meaning κs a b c r q h k = h ∙ sym k

pub one_said_put_mistake : (κs : _) (a : _) (b c : _) (r q : _) → said-put-mistake.Post κs a r b → said-put-mistake.Post κs a q c → b.0.now ≡ c.0.now
one_said_put_mistake κs a b c r q h k = h ∙ sym k

pub one_said_put_meaning_line : (κs : _) (a : _) (b c : _) (r q : _) → said-put-meaning-line.Post κs a r b → said-put-meaning-line.Post κs a q c → b.0.now ≡ c.0.now
one_said_put_meaning_line κs a b c r q h k = h ∙ sym k

pub one_said_put_refusal : (κs : _) (a : _) (b c : _) (r q : _) → said-put-refusal.Post κs a r b → said-put-refusal.Post κs a q c → b.0.now ≡ c.0.now
one_said_put_refusal κs a b c r q h k = h ∙ sym k

pub one_said_put_refusal_at : (κs : _) (a : _) (b c : _) (r q : _) → said-put-refusal-at.Post κs a r b → said-put-refusal-at.Post κs a q c → b.0.now ≡ c.0.now
one_said_put_refusal_at κs a b c r q h k = h ∙ sym k

pub one_said_put_task : (κs : _) (a : _) (b c : _) (r q : _) → said-put-task.Post κs a r b → said-put-task.Post κs a q c → b.0.now ≡ c.0.now
one_said_put_task κs a b c r q h k = h ∙ sym k

pub one_said_put_use : (κs : _) (a : _) (b c : _) (r q : _) → said-put-use.Post κs a r b → said-put-use.Post κs a q c → b.0.now ≡ c.0.now
one_said_put_use κs a b c r q h k = h ∙ sym k

pub one_said_put_lock : (κs : _) (a : _) (b c : _) (r q : _) → said-put-lock.Post κs a r b → said-put-lock.Post κs a q c → b.0.now ≡ c.0.now
one_said_put_lock κs a b c r q h k = h ∙ sym k

pub one_said_put_event : (κs : _) (a : _) (b c : _) (r q : _) → said-put-event.Post κs a r b → said-put-event.Post κs a q c → b.0.now ≡ c.0.now
one_said_put_event κs a b c r q h k = h ∙ sym k

pub one_said_put_no_event : (κs : _) (a : _) (b c : _) (r q : _) → said-put-no-event.Post κs a r b → said-put-no-event.Post κs a q c → b.0.now ≡ c.0.now
one_said_put_no_event κs a b c r q h k = h ∙ sym k

pub one_said_put_ran : (κs : _) (a : _) (b c : _) (r q : _) → said-put-ran.Post κs a r b → said-put-ran.Post κs a q c → b.0.now ≡ c.0.now
one_said_put_ran κs a b c r q h k = h ∙ sym k

pub one_said_put_refused : (κs : _) (a : _) (b c : _) (r q : _) → said-put-refused.Post κs a r b → said-put-refused.Post κs a q c → b.0.now ≡ c.0.now
one_said_put_refused κs a b c r q h k = h ∙ sym k

pub one_said_put_unreached : (κs : _) (a : _) (b c : _) (r q : _) → said-put-unreached.Post κs a r b → said-put-unreached.Post κs a q c → b.0.now ≡ c.0.now
one_said_put_unreached κs a b c r q h k = h ∙ sym k

pub one_said_put_size : (κs : _) (a : _) (b c : _) (r q : _) → said-put-size.Post κs a r b → said-put-size.Post κs a q c → b.0.now ≡ c.0.now
one_said_put_size κs a b c r q h k = h ∙ sym k

pub one_said_put_entry : (κs : _) (a : _) (b c : _) (r q : _) → said-put-entry.Post κs a r b → said-put-entry.Post κs a q c → b.0.now ≡ c.0.now
one_said_put_entry κs a b c r q h k = h ∙ sym k

pub one_said_put_call : (κs : _) (a : _) (b c : _) (r q : _) → said-put-call.Post κs a r b → said-put-call.Post κs a q c → b.0.now ≡ c.0.now
one_said_put_call κs a b c r q h k = h ∙ sym k

pub one_said_put_stop : (κs : _) (a : _) (b c : _) (r q : _) → said-put-stop.Post κs a r b → said-put-stop.Post κs a q c → b.0.now ≡ c.0.now
one_said_put_stop κs a b c r q h k = h ∙ sym k

pub one_said_put_reason : (κs : _) (a : _) (b c : _) (r q : _) → said-put-reason.Post κs a r b → said-put-reason.Post κs a q c → b.0.now ≡ c.0.now
one_said_put_reason κs a b c r q h k = h ∙ sym k

pub one_collect : (κs : _) (a : _) (b c : _) (r q : _) → collect.Post κs a r b → collect.Post κs a q c → b.1.1.0.now ≡ c.1.1.0.now
one_collect κs a b c r q h k = h ∙ sym k

pub one_explain : (κs : _) (a : _) (b c : _) (r q : _) → explain.Post κs a r b → explain.Post κs a q c → b.1.1.0.now ≡ c.1.1.0.now
one_explain κs a b c r q h k = h ∙ sym k

pub one_show : (κs : Lfts 2) (a : _) (b c : _) (r q : ℕ) → show.Post κs a r b → show.Post κs a q c → (r ≡ q) × (b.1.0.now ≡ c.1.0.now)
one_show κs a b c r q h k = (h.1 ∙ sym k.1, h.0 ∙ sym k.0)

-- ---- a book composed

same_made : (r q : Made) (x y s t : List ℕ) (w : Answered) → answered r.length x (page s r.said) ≡ w → answered q.length y (page t q.said) ≡ w
    → (r ≡ q) × (x ≡ y) × (s ≡ t)
same_made r q x y s t w h k =
    let e : answered r.length x (page s r.said) ≡ answered q.length y (page t q.said) = h ∙ sym k in
    ((λ i. record { length = (e i).length; said = (e i).said.place }), ap (λ (v : Answered). v.bytes) e, ap (λ (v : Answered). v.said.bytes) e)

pub one_compose : (κs : Lfts 3) (a : _) (b c : _) (r q : Made) → compose.Post κs a r b → compose.Post κs a q c
    → (r ≡ q) × (b.1.0.now ≡ c.1.0.now) × (b.1.1.0.now ≡ c.1.1.0.now)
one_compose κs a b c r q h k = same_made r q _ _ _ _ _ h k
