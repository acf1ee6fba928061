-- Items of the stack as the variables of a call.
use Rattle.std.proofs.Common.{◌≡◌, ℕ, ◌+◌, ◌-◌, ◌≤◌, List, ◌++◌, length, take, drop, map, sym, ap, ◌∙◌}
use Rattle.std.specs.Prelude.{reverse}
use Rattle.std.proofs.lemmas.List.{reverse-reverse}
use Rattle.muck_laws.proofs.Mapped.{map_drop, map_join, map_take}
use Rattle.muck_laws.proofs.Turned.{above_depth, below_depth, map_reverse}
use Rattle.muf_model.specs.declared.value.Value.{Value}
use Rattle.muf_model.specs.inner.View.{view}

-- the items above a height, the lowest first
above_items : (n m : ℕ) (items : List Value) → m ≡ length (reverse items) → n ≤ m → drop (m - n) items ≡ reverse (take n (reverse items))
above_items n m items e h = sym (reverse-reverse (drop (m - n) items)) ∙ ap reverse (above_depth n m items e h)

pub bound_stack : (n m : ℕ) (items : List Value) → m ≡ length (reverse items) → n ≤ m → map view (reverse (take (m - n) items)) ≡ drop n (map view (reverse items))
bound_stack n m items e h = ap (map view) (below_depth n m items e h) ∙ map_drop view n (reverse items)

pub bound_variables : (n m base : ℕ) (items vars : List Value) → m ≡ length (reverse items) → n ≤ m → map view (take base vars ++ (drop (m - n) items ++ drop (base + n) vars)) ≡ take base (map view vars) ++ (reverse (take n (map view (reverse items))) ++ drop (base + n) (map view vars))
bound_variables n m base items vars e h =
    map_join view (take base vars) (drop (m - n) items ++ drop (base + n) vars)
    ∙ ap (λ l. map view (take base vars) ++ l) (map_join view (drop (m - n) items) (drop (base + n) vars))
    ∙ ap (λ l. l ++ (map view (drop (m - n) items) ++ map view (drop (base + n) vars))) (map_take view base vars)
    ∙ ap (λ l. take base (map view vars) ++ (map view (drop (m - n) items) ++ l)) (map_drop view (base + n) vars)
    ∙ ap (λ l. take base (map view vars) ++ (l ++ drop (base + n) (map view vars))) (ap (map view) (above_items n m items e h) ∙ map_reverse view (take n (reverse items)) ∙ ap reverse (map_take view n (reverse items)))
