-- Worked rows of the definitions.
use Rattle.std.specs.Prelude.{◌≡◌, refl, ℕ, false, List, [], ◌∷◌, None, Some, codes}
use Rattle.std.specs.declared.cmp.Ordering.TheVariants.{Less}
use Rattle.muck_prop.specs.declared.path.Class.TheVariants.{At, Tilde, Underscore, Plain}
use Rattle.muck_prop.specs.declared.path.PropFault.TheVariants.{BadPath, TooDeep}
use Rattle.muck_prop.specs.Order.{path_cmp, is_below}
use Rattle.muck_prop.specs.Paths.{segments_of, path_text, path_fault, class_of}
use Rattle.muck_prop.specs.Store.{next_among}

-- ---- reading

dropped : segments_of (codes "//A///b//") ≡ codes "a" ∷ codes "b" ∷ []
dropped = refl

joined : path_text (codes "_" ∷ codes "de" ∷ []) ≡ codes "_/de"
joined = refl

nothing_left : path_fault (codes "//") ≡ Some BadPath
nothing_left = refl

colon : path_fault (codes "a:b") ≡ Some BadPath
colon = refl

sixteen : path_fault (codes "/a/b/c/d/e/f/g/h/i/j/k/l/m/n/o/p//") ≡ None
sixteen = refl

seventeen : path_fault (codes "a/b/c/d/e/f/g/h/i/j/k/l/m/n/o/p/q") ≡ Some TooDeep
seventeen = refl

-- ---- classes

first_sign : class_of (segments_of (codes "~a/b/@c")) ≡ At
first_sign = refl

second_sign : class_of (segments_of (codes ".a/~b")) ≡ Tilde
second_sign = refl

message : class_of (segments_of (codes "_/de")) ≡ Underscore
message = refl

inner_sign : class_of (segments_of (codes "a@/b~")) ≡ Plain
inner_sign = refl

-- ---- order: segments before bytes, and a path before those that continue it

by_segments : path_cmp (segments_of (codes "a/b")) (segments_of (codes "a b")) ≡ Less
by_segments = refl

shorter_first : path_cmp (segments_of (codes "a")) (segments_of (codes "a/b")) ≡ Less
shorter_first = refl

no_part_of_a_segment : is_below (segments_of (codes "a")) (segments_of (codes "ab")) ≡ false
no_part_of_a_segment = refl

-- ---- children

paths : List (List (List ℕ))
paths = segments_of (codes "a/x/y") ∷ segments_of (codes "a/z") ∷ segments_of (codes "b") ∷ []

-- a directory without a value
first_child : next_among [] None paths ≡ Some (codes "a" ∷ [])
unfolding paths
first_child = refl

after_it : next_among [] (Some (codes "a" ∷ [])) paths ≡ Some (codes "b" ∷ [])
unfolding paths
after_it = refl

inner_child : next_among (codes "a" ∷ []) None paths ≡ Some (segments_of (codes "a/x"))
unfolding paths
inner_child = refl

-- from further down, the child after
passed : next_among (codes "a" ∷ []) (Some (segments_of (codes "a/x/y"))) paths ≡ Some (segments_of (codes "a/z"))
unfolding paths
passed = refl

none_left : next_among (codes "a" ∷ []) (Some (segments_of (codes "a/z"))) paths ≡ None
unfolding paths
none_left = refl
