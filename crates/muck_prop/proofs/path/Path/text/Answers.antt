use Rattle.std.proofs.Common.{◌≡◌, sym, subst, None}
use Rattle.muck_model.specs.Bytes.{text_fault}
use Rattle.muck_prop.specs.Paths.{IsReadAs, path_text}
use Rattle.muck_prop.proofs.Writing.{text_reads, text_is_text}
use Rattle.muck_prop.proofs.path.Path.text.Goals as goal

pub returns-in_err-text-clause-reads : goal.returns-in_err-text-clause-reads
returns-in_err-text-clause-reads c = subst (λ p. IsReadAs (path_text p) p) c.self.view_is (text_reads _ c.self.invariant)

pub returns-clause-reads : goal.returns-clause-reads
returns-clause-reads c = subst (λ p. IsReadAs (path_text p) p) c.self.view_is (text_reads _ c.self.invariant)

pub of_text_vec-requires : goal.of_text_vec-requires
of_text_vec-requires c = subst (λ bs. text_fault bs ≡ None) (sym c.in_ok-text.ensures) (text_is_text _ c.self.invariant)
