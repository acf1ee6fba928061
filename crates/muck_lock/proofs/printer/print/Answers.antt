-- A text that is too long, and the law.
use Rattle.std.proofs.Common.{◌≡◌, ◌<◌, ◌++◌, length, sym, ◌∙◌, ap, subst, refl}
use Rattle.muck_model.specs.Bytes.{text_most}
use Rattle.muck_lock.specs.Printed.{lock_printed}
use Rattle.muck_lock.specs.declared.part.Part.TheVariants.{OneOf}
use Rattle.muck_lock.proofs.Passes.{Passes}
use Rattle.muck_lock.proofs.Places.{is_inside, too_many}
use Rattle.muck_lock.proofs.Inside.{inside-written}
use Rattle.muck_lock.specs.inner.Law.{ReadsBack}
use Rattle.muck_lock.proofs.Back.{reads_back}
use Rattle.muck_lock.proofs.printer.print.Goals as goal

pub returns-in-Err-clause-text : goal.returns-in-Err-clause-text
returns-in-Err-clause-text c =
    let text : c.put.new.out.items ≡ lock_printed c.args.lock.now = c.in_ok-put.ensures.text ∙ ap (λ l. l ++ lock_printed c.args.lock.now) c.new-bytes.ensures.items in
    let inside = subst (λ l. Passes is_inside l) (sym text) (inside-written c.args.lock.now c.in_ok-put.ensures.made OneOf) in
    (refl, subst (λ l. text_most < length l) text (too_many c.put.new.out.items c.in-Err.field-0 inside c.in-Err.ensures))

pub returns-in-Ok-clause-law : goal.returns-in-Ok-clause-law
returns-in-Ok-clause-law c =
    let text : c.put.new.out.items ≡ lock_printed c.args.lock.now = c.in_ok-put.ensures.text ∙ ap (λ l. l ++ lock_printed c.args.lock.now) c.new-bytes.ensures.items in
    let line : c.in-Ok.line ≡ lock_printed c.args.lock.now = c.in-Ok.ensures.0 ∙ text in
    subst (λ l. ReadsBack c.args.lock.now l) (sym line) (reads_back c.args.lock.now c.in_ok-put.ensures.made)
