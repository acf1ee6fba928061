-- The entries of an ordered map by numbers of processes, in the words of a finite map.
use Rattle.std.proofs.Common.{◌≡◌, cond, List, [], ◌∷◌, refl, ap, sym, ◌∙◌}
use Rattle.std.specs.Prelude.{ℤ, Some}
use Rattle.std.specs.Cmp.{int_cmp_total}
use Rattle.std.specs.Ordering.{is_eq, int_cmp}
use Rattle.std.specs.Map.{lookup}
use Rattle.std.specs.BTreeMap.{is_at}
use Rattle.std.specs.FinMap.{get, insert, from_entries, find, get-from_entries, get-insert, same_map, int_cmp-IsAntisymmetric}
use Rattle.muck_laws.proofs.Found.{turned}
use Rattle.muf_debug.specs.declared.places.Spot.{Spot}

found : (q : ℤ) (es : List (ℤ × Spot)) → find int_cmp q es ≡ lookup (is_at (int_cmp q)) es
found q [] = refl
found q (e ∷ es) = ap (cond (is_eq (int_cmp q e.0)) (Some e.1)) (found q es)

-- where a process was
pub get_is : (q : ℤ) (es : List (ℤ × Spot)) → get (from_entries {R = int_cmp} es) q ≡ lookup (is_at (int_cmp q)) es
get_is q es = get-from_entries int_cmp_total es q ∙ found q es

-- entries that answer as others do, but for one process
pub inserted : (k : ℤ) (v : Spot) (es fs : List (ℤ × Spot))
    → ((q : ℤ) → lookup (is_at (int_cmp q)) fs ≡ cond (is_at (int_cmp k) q) (Some v) (lookup (is_at (int_cmp q)) es))
    → from_entries {R = int_cmp} fs ≡ insert (from_entries es) k v
inserted k v es fs told =
    same_map int_cmp_total int_cmp-IsAntisymmetric _ _ (λ q.
    get_is q fs ∙ told q
    ∙ (λ i. cond (turned k q i) (Some v) (sym (get_is q es) i))
    ∙ sym (get-insert int_cmp_total (from_entries es) k v q))
