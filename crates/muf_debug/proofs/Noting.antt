-- A tracer that was told of a view.
use Rattle.std.proofs.Common.{◌≡◌, ℕ, true, false, List, [], ◌∷◌, ◌++◌, ap, sym, ◌∙◌}
use Rattle.std.specs.FinMap as map
use Rattle.std.proofs.lemmas.Bool.{cond-true, cond-false}
use Rattle.muf_debug.specs.declared.view.View.{View}
use Rattle.muf_debug.specs.Printed.{view_printed}
use Rattle.muf_debug.specs.Shown.{Tracer, Lasts, is_unit_shown, spot_of, lines_kept_with, view_told}

noted : (v : View) (t : Tracer) (last : Lasts) (kept : List (List ℕ)) → last ≡ map.insert t.last v.pid (spot_of v) → kept ≡ lines_kept_with v t → record t { last = last; kept = kept } ≡ view_told v t
unfolding view_told
noted v t last kept l k = ap (λ x. record t { last = x; kept = kept }) l ∙ ap (λ x. record t { last = map.insert t.last v.pid (spot_of v); kept = x }) k

pub noted_shown : (v : View) (t : Tracer) (last : Lasts) (kept : List (List ℕ)) → is_unit_shown v.pid (spot_of v) t ≡ true → last ≡ map.insert t.last v.pid (spot_of v) → kept ≡ t.kept ++ view_printed v ∷ [] → record t { last = last; kept = kept } ≡ view_told v t
noted_shown v t last kept s l k = noted v t last kept l (k ∙ sym (cond-true _ _ _ s))

pub noted_hidden : (v : View) (t : Tracer) (last : Lasts) (kept : List (List ℕ)) → is_unit_shown v.pid (spot_of v) t ≡ false → last ≡ map.insert t.last v.pid (spot_of v) → kept ≡ t.kept → record t { last = last; kept = kept } ≡ view_told v t
noted_hidden v t last kept s l k = noted v t last kept l (k ∙ sym (cond-false _ _ _ s))
