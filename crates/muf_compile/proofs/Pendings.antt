-- What is open innermost.
use Rattle.std.proofs.Common.{◌≡◌, List, [], ◌∷◌, ◌++◌, reverse, refl}
use Rattle.muf_compile.specs.declared.hole.Pending.{Pending}
use Rattle.muf_compile.specs.declared.fault.CompileKind.{CompileKind}
use Rattle.muf_compile.specs.inner.Build.{in_loop, is_looping, misfit, unclosed}
use Rattle.std.proofs.lemmas.List.{reverse-append}

pub last_first : (xs rest : List Pending) (x : Pending) → xs ≡ rest ++ x ∷ [] → in_loop (reverse xs) ≡ is_looping x
last_first xs rest x e = rw (e, reverse-append rest (x ∷ [])) refl

pub last_misfit : (xs rest : List Pending) (x : Pending) (k : CompileKind) → xs ≡ rest ++ x ∷ [] → misfit k (reverse xs) ≡ unclosed x
last_misfit xs rest x k e = rw (e, reverse-append rest (x ∷ [])) refl
