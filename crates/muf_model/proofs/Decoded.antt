-- A frame stands for no other state than the one that is read off it.
use Rattle.std.proofs.Common.{◌≡◌, List, ◌∷◌, ap, refl, sym, subst}
use Rattle.std.proofs.Math.Seq.{drop-append_seam, take-append_seam}
use Rattle.muf_model.specs.declared.code.Code.{Code}
use Rattle.muf_model.specs.Datum.{Datum}
use Rattle.muf_model.specs.Tree.{closes}
use Rattle.muf_model.specs.Source.{Mark, looping, trying, calling, entering, Source}
use Rattle.muf_model.specs.inner.Nested.{Nested}
use Rattle.muf_model.specs.inner.Flat.{FlatMark, Flat, marks_of, decode}
use Rattle.muf_model.specs.inner.Fits.{MarksFit, none, loops, tries, calls, enters, FitsState, fit, Fits}
use Rattle.muf_model.proofs.Unique.{remains_read, tree_read}

pub marks_read : {codes : List Code} {ms : List Mark} {ns : List FlatMark} {below : List Datum} → MarksFit codes ms ns below → marks_of codes ns below ≡ ms
marks_read none = refl
marks_read (loops {code} {t} {round} {next} {c} {last} {end} {again} {after} {ms} a b m) =
    rw (remains_read code.placed again round (closes c last) a, remains_read code.placed after next end b) (ap (λ l. looping t round c last next end ∷ l) (marks_read m))
marks_read (tries {code} {next} {end} {locked} {place} a m) =
    rw (remains_read code.placed place next end a) (ap (λ l. trying locked next end ∷ l) (marks_read m))
marks_read (calls {code} {next} {end} {place} {saved} {below} a m) =
    rw (remains_read code.placed place next end a, take-append_seam below saved, drop-append_seam below saved) (ap (λ l. calling saved next end ∷ l) (marks_read m))
marks_read (enters {caller} {program} {next} {end} {place} {saved} {below} q a m) =
    rw (remains_read caller.placed place next end a, take-append_seam below saved, drop-append_seam below saved, tree_read caller program.tree q) (ap (λ l. entering program saved next end ∷ l) (marks_read m))

pub decoded : {codes : List Code} {f : Flat} {s : Source} → FitsState codes f s → decode codes f ≡ s
decoded (fit {code} {vars} {below} {place} {program} {now} {end} p a m) =
    rw (remains_read code.placed place now end a, take-append_seam below vars, drop-append_seam below vars, tree_read code program.tree p, marks_read m) refl

-- a frame that stands for a nested state fits
pub fits : {codes : List Code} {f : Flat} {s : Source} → FitsState codes f s → Nested s → Fits codes f
fits {codes} {f} h n = record { state = subst (FitsState codes f) (sym (decoded h)) h; nested = subst Nested (sym (decoded h)) n }
