-- The entries of an ordered map of variables, in the words of a finite map.
use Rattle.std.proofs.Common.{◌≡◌, ℕ, cond, List, [], ◌∷◌, refl, ap, sym, ◌∙◌}
use Rattle.std.specs.Prelude.{None, Some}
use Rattle.std.specs.Cmp.{eq_by_cmp_equiv}
use Rattle.std.specs.Cmp.Lexicographic.{nat_list_cmp_total}
use Rattle.std.specs.Ordering.{is_eq, eq_by_cmp}
use Rattle.std.specs.Map.{lookup}
use Rattle.std.specs.BTreeMap.{is_at}
use Rattle.std.specs.FinMap.{get, insert, remove, from_entries, find, get-from_entries, get-insert, get-remove, same_map, IsAntisymmetric, slice_cmp-IsAntisymmetric, nat_cmp-IsAntisymmetric}
use Rattle.mpi.specs.Variables.{name_cmp}

pub name_cmp_same : IsAntisymmetric name_cmp
name_cmp_same = slice_cmp-IsAntisymmetric nat_cmp-IsAntisymmetric

found : (q : List ℕ) (es : List (List ℕ × List ℕ)) → find name_cmp q es ≡ lookup (is_at (name_cmp q)) es
found q [] = refl
found q (e ∷ es) = ap (cond (is_eq (name_cmp q e.0)) (Some e.1)) (found q es)

-- the value of a name
pub get_is : (q : List ℕ) (es : List (List ℕ × List ℕ)) → get (from_entries {R = name_cmp} es) q ≡ lookup (is_at (name_cmp q)) es
get_is q es = get-from_entries nat_list_cmp_total es q ∙ found q es

turned : (k q : List ℕ) → is_at (name_cmp k) q ≡ eq_by_cmp name_cmp q k
turned k q = (eq_by_cmp_equiv nat_list_cmp_total).symm k q

-- entries that answer as others do, but for one name
pub inserted : (k v : List ℕ) (es fs : List (List ℕ × List ℕ))
    → ((q : List ℕ) → lookup (is_at (name_cmp q)) fs ≡ cond (is_at (name_cmp k) q) (Some v) (lookup (is_at (name_cmp q)) es))
    → from_entries {R = name_cmp} fs ≡ insert (from_entries es) k v
inserted k v es fs told =
    same_map nat_list_cmp_total name_cmp_same _ _ (λ q.
    get_is q fs ∙ told q
    ∙ (λ i. cond (turned k q i) (Some v) (sym (get_is q es) i))
    ∙ sym (get-insert nat_list_cmp_total (from_entries es) k v q))

pub removed : (k : List ℕ) (es fs : List (List ℕ × List ℕ))
    → ((q : List ℕ) → lookup (is_at (name_cmp q)) fs ≡ cond (is_at (name_cmp k) q) None (lookup (is_at (name_cmp q)) es))
    → from_entries {R = name_cmp} fs ≡ remove (from_entries es) k
removed k es fs told =
    same_map nat_list_cmp_total name_cmp_same _ _ (λ q.
    get_is q fs ∙ told q
    ∙ (λ i. cond (turned k q i) None (sym (get_is q es) i))
    ∙ sym (get-remove nat_list_cmp_total (from_entries es) k q))
