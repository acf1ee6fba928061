-- How many instructions an act makes.
use Rattle.std.specs.Prelude.{ℕ}
use Rattle.muf_compile.specs.declared.act.Opening.TheVariants.{Begin, For, Each}
use Rattle.muf_compile.specs.declared.act.Act.{Act}
use Rattle.muf_compile.specs.declared.act.Act.TheVariants.{Wait, Title, Open, Then, EndCatch, Offer}

-- How many instructions an act makes that take a unit. FOR and FOREACH make two, their opening and their test; THEN,
-- ENDCATCH, BEGIN and declarations make none, and each other act one.
abbrev pub cost_of : Act → ℕ
cost_of (Open For) = 2
cost_of (Open Each) = 2
cost_of (Open Begin) = 0
cost_of Then = 0
cost_of EndCatch = 0
cost_of Wait = 0
cost_of (Title name) = 0
cost_of (Offer n o) = 0
cost_of _ = 1
