-- RULES 7.8: the fresh state: nobody runs, and every other figure is 0. Assumes nothing.
use Rattle.std.specs.Prelude.{replicate}
use Rattle.rules.specs.Numbers.Capacity.{max_tasks, max_locks, nobody}
use Rattle.rules.specs.declared.state.Head.{Head}
use Rattle.rules.specs.declared.state.State.{State}

abbrev pub fresh_head : Head
fresh_head = record { accepted = 0; running = nobody; user = record { 0 = 0 }; next = record { 0 = 0 }; lazy = 0; eager = 0 }

abbrev pub fresh_of : State
fresh_of =
    record {
      head = fresh_head;
      released = replicate max_tasks 0;
      kept = replicate max_tasks 0;
      delay = replicate max_tasks 0;
      depth = replicate max_tasks 0;
      takes = replicate max_tasks 0;
      saved = replicate max_tasks 0;
      units = replicate max_locks 0;
      owner = replicate max_locks 0;
    }
