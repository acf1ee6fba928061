-- What is seen of a process before a unit.
use Rattle.std.specs.Prelude.{ℤ, reverse}
use Rattle.muf_model.specs.Source.{Source}
use Rattle.muf_compile.specs.Lines.{next_line}
use Rattle.muf_debug.specs.declared.view.View.{View}

-- the process of this number, which stands at this state
abbrev pub view_at : ℤ → Source → View
view_at pid s = record {
  pid = pid;
  program = record { 0 = s.program.number };
  line = next_line s.now s.end;
  stack = reverse s.stack;
  scope = s.variables;
}
