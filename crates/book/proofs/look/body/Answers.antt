-- `look::body` meets its contract. Without contents, and with them.
use Rattle.rules.proofs.Numbers.Choice.{tests}
use Rattle.book.specs.Look.{body_in}
use Rattle.book.proofs.Looks.{body_some}
use Rattle.book.proofs.Places.{index_small}
use Rattle.book.proofs.look.body.Goals as goal

pub returns-then-b-lt-CONTENTS : goal.returns-then-b-lt-CONTENTS
unfolding body_in
returns-then-b-lt-CONTENTS c = search tests

pub returns-else-b-lt-CONTENTS : goal.returns-else-b-lt-CONTENTS
returns-else-b-lt-CONTENTS c = body_some _ _ _ c.if-b-lt-CONTENTS.false (index_small _) c.body_at.ensures
