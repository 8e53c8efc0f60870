-- `contents::first_fault` meets its contract. Each check is asked where those before it found nothing.
use Rattle.std.proofs.Common.{sym, ◌∙◌, refl}
use Rattle.rules.specs.Books.Plan.{count_fault}
use Rattle.rules.specs.Books.Book.{count_at, layout_fault}
use Rattle.book.proofs.Order.{short_book, wrong_count, wrong_part, wrong_end, no_wrong}
use Rattle.book.proofs.Places.{part_found, part_absent}
use Rattle.book.proofs.contents.first_fault.Goals as goal

pub returns-then-b-lt-CONTENTS : goal.returns-then-b-lt-CONTENTS
returns-then-b-lt-CONTENTS c = short_book _ c.if-b-lt-CONTENTS.true

pub returns-in-Some : goal.returns-in-Some
returns-in-Some c =
    let (l, q) = part_found (λ e. count_fault e (count_at c.args.b.now e)) _ (sym c.first_count.ensures ∙ c.in-Some.is) in
    wrong_count _ c.if-b-lt-CONTENTS.false _ q l

pub returns-in-Some-first_entry : goal.returns-in-Some-first_entry
returns-in-Some-first_entry c =
    let counts = part_absent (λ e. count_fault e (count_at c.args.b.now e)) (sym c.first_count.ensures ∙ c.in_default.is) in
    let (l, q) = part_found (layout_fault c.args.b.now) _ (sym c.first_entry.ensures ∙ c.in-Some-first_entry.is) in
    wrong_part _ c.if-b-lt-CONTENTS.false _ refl counts _ l q

pub returns-then-bodies_end-b : goal.returns-then-bodies_end-b
returns-then-bodies_end-b c =
    let counts = part_absent (λ e. count_fault e (count_at c.args.b.now e)) (sym c.first_count.ensures ∙ c.in_default.is) in
    let entries = part_absent (layout_fault c.args.b.now) (sym c.first_entry.ensures ∙ c.in_default-first_entry.is) in
    wrong_end _ c.if-b-lt-CONTENTS.false _ refl counts entries _ c.bodies_end.ensures c.if-bodies_end-b.true

pub returns : goal.returns
returns c =
    let counts = part_absent (λ e. count_fault e (count_at c.args.b.now e)) (sym c.first_count.ensures ∙ c.in_default.is) in
    let entries = part_absent (layout_fault c.args.b.now) (sym c.first_entry.ensures ∙ c.in_default-first_entry.is) in
    no_wrong _ c.if-b-lt-CONTENTS.false _ refl counts entries _ c.bodies_end.ensures c.if-bodies_end-b.false
