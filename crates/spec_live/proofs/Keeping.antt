-- What is so between a world and what comes of it: a law for each way to put changes together, whatever the world is.
use Rattle.std.proofs.Common.{◌≡◌, Bool, true, false, refl}
use Rattle.spec_live.specs.Lives.{change_followed, reading, either, where_so, unchanged}

-- R is so between each world and what f makes of it
pub record Keeps {W Y : Type 0} (R : W → Y → Type 0) (f : W → Y) : Type 0 where
  pub law : (w : W) → R w (f w)

-- what is so of a world and itself, and of three worlds where it is so from the one to the next
pub record Order {W : Type 0} (R : W → W → Type 0) : Type 0 where
  pub itself : (w : W) → R w w
  pub both : (u v w : W) → R u v → R v w → R u w

-- A path of steps, and what holds along it.

pub data Path {W : Type 0} (Step : W → W → Type 0) : W → W → Type 0 where
  stays : {w : W} → Path Step w w
  goes : {u v w : W} → Step u v → Path Step v w → Path Step u w

pub one : {W : Type 0} {Step : W → W → Type 0} {u v : W} → Step u v → Path Step u v
one s = goes s stays

pub join : {W : Type 0} {Step : W → W → Type 0} {u v w : W} → Path Step u v → Path Step v w → Path Step u w
join stays q = q
join (goes s p) q = goes s (join p q)

-- so what is said of each way to put changes together is said of paths
pub path_order : {W : Type 0} (Step : W → W → Type 0) → Order (Path Step)
path_order Step = record { itself = λ w. stays; both = λ u v w p q. join p q }

-- what holds of each step holds of the path
pub along : {W : Type 0} {Step R : W → W → Type 0} → Order R → ((u v : W) → Step u v → R u v) → (u w : W) → Path Step u w → R u w
along o law _ _ (stays {w}) = o.itself w
along o law _ _ (goes {u} {v} {w} s p) = o.both u v w (law u v s) (along o law v w p)

-- Changes put together.

pub keeps_unchanged : {W : Type 0} {R : W → W → Type 0} → Order R → Keeps R unchanged
unfolding unchanged
keeps_unchanged o = record { law = o.itself }

pub keeps_followed : {W : Type 0} {R : W → W → Type 0} (f g : W → W) → Order R → Keeps R f → Keeps R g → Keeps R (change_followed f g)
unfolding change_followed
keeps_followed f g o p q = record { law = λ w. o.both w (f w) (g (f w)) (p.law w) (q.law (f w)) }

-- f and g differ in what they keep
pub keeps_after : {W Y : Type 0} {R : W → W → Type 0} {S T : W → Y → Type 0} (f : W → W) (g : W → Y) → ((w v : W) (y : Y) → R w v → S v y → T w y) → Keeps R f → Keeps S g → Keeps T (change_followed f g)
unfolding change_followed
keeps_after f g both p q = record { law = λ w. both w (f w) (g (f w)) (p.law w) (q.law (f w)) }

pub keeps_more : {W Y : Type 0} {R S : W → Y → Type 0} (f : W → Y) → ((w : W) (y : Y) → R w y → S w y) → Keeps R f → Keeps S f
keeps_more f so p = record { law = λ w. so w (f w) (p.law w) }

pub keeps_reading : {W X Y : Type 0} {R : W → Y → Type 0} (get : W → X) (go : X → W → Y) → ((x : X) → Keeps R (go x)) → Keeps R (reading get go)
unfolding reading
keeps_reading get go p = record { law = λ w. (p (get w)).law w }

-- with what was read
pub keeps_told : {W X Y : Type 0} {R : W → Y → Type 0} {S : X → W → Y → Type 0} (get : W → X) (go : X → W → Y) → ((x : X) (w : W) (y : Y) → get w ≡ x → S x w y → R w y) → ((x : X) → Keeps (S x) (go x)) → Keeps R (reading get go)
unfolding reading
keeps_told get go so p = record { law = λ w. so (get w) w (go (get w) w) refl ((p (get w)).law w) }

pub keeps_either : {W Y : Type 0} {R : W → Y → Type 0} (b : Bool) (f g : W → Y) → Keeps R f → Keeps R g → Keeps R (either b f g)
unfolding either
keeps_either true f g p q = record { law = p.law }
keeps_either false f g p q = record { law = q.law }

pub keeps_where : {W Y : Type 0} {R : W → Y → Type 0} (test : W → Bool) (otherwise go : W → Y) → Keeps R otherwise → Keeps R go → Keeps R (where_so test otherwise go)
unfolding where_so
keeps_where test otherwise go p q = keeps_reading test (λ b. either b go otherwise) (λ b. keeps_either b go otherwise q p)

-- whatever the world is
pub ruleset keeping = (keeps_followed, keeps_reading, keeps_either)
