use Rattle.std.proofs.Common.{◌≡◌, ◌+◌, ◌≤◌, ◌++◌, length}
use Rattle.std.specs.Prelude.{None, option_map}
use Rattle.muck_model.specs.Bytes.{text_fault, text_most}
use Rattle.mpi.specs.Brackets.{formula_pieces}
use Rattle.mpi.specs.Made.{Inside}
use Rattle.mpi.specs.inner.Alike.{said}
use Rattle.mpi.proofs.alike.said.Given as goal

abbrev pub decreases-loop-first : goal.decreases-loop-first
decreases-loop-first l = length l.rest

-- what is said so far, and what the rest says
abbrev pub invariant-loop-first : goal.invariant-loop-first
invariant-loop-first l = record {
  whole : said (formula_pieces l.text) ≡ option_map (λ xs. l.out.items ++ xs) (said (formula_pieces l.rest));
  inside : Inside l.out.items;
  short : length l.out.items + length l.rest ≤ text_most;
  rest : text_fault l.rest ≡ None;
}
