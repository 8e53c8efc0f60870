-- `kernel::protocol::second_word` meets its contract, in either protocol. Assumes nothing.
use Rattle.std.proofs.Common.{ap}
use Rattle.rules.specs.Schedulers.Protocol.{second_word}
use Rattle.kernel.proofs.protocol.second_word.Goals as goal

pub returns-in-Second : goal.returns-in-Second
unfolding second_word
returns-in-Second c = rw c.in-Second.is

pub returns-in-First : goal.returns-in-First
unfolding second_word
returns-in-First c = rw c.in-First.is (ap (λ v. record { 0 = v }) c.recorded.ensures)
