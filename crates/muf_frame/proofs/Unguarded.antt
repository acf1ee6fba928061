-- Without a TRY no fault is caught.
use Rattle.std.proofs.Common.{◌≡◌, ℕ, suc, List, [], ◌∷◌, None, refl, false, rules}
use Rattle.muf_model.specs.inner.Flat.{FlatMark, loop, guard, back, leave, Flat}
use Rattle.muf_model.specs.declared.fault.MufFault.{MufFault}
use Rattle.muf_model.specs.Faults.{fault_text}
use Rattle.muf_frame.specs.inner.Moves.{behind, unwound, caught, has_guard}

pub unguarded : (bytes : List ℕ) (k : ℕ) (s : Flat) (ms : List FlatMark) → has_guard ms ≡ false → unwound bytes k s ms ≡ None
unguarded bytes k s [] h = refl
unguarded bytes k s (loop t again after ∷ ms) h = unguarded bytes k (behind (loop t again after) ms s) ms h
unguarded bytes k s (guard locked place ∷ ms) h = search rules
unguarded bytes k s (back base place ∷ ms) h = unguarded bytes k (behind (back base place) ms s) ms h
unguarded bytes k s (leave caller base place ∷ ms) h = unguarded bytes (suc k) (behind (leave caller base place) ms s) ms h

pub uncaught : (f : MufFault) (s : Flat) → has_guard s.marks ≡ false → caught f s ≡ None
uncaught f s h = rw (unguarded (fault_text f) 0 s s.marks h) (search rules)
