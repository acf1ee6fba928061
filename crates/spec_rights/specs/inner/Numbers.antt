-- The number of each rule, which is its place among the rules.
use Rattle.std.specs.Prelude.{ℕ}
use Rattle.muck_model.specs.declared.dbref.Dbref.{Dbref}
use Rattle.muck_model.specs.declared.dbref.Denial.{Denial}
use Rattle.spec_rights.specs.declared.rule.Rule.{Rule}
use Rattle.spec_rights.specs.declared.rule.Rule.TheVariants.{P1, P2, P3, P4, P5, P6, P7, P8, P9, P10, P11, P12, P13, P14, P15, P16, P17, P18, P19, P20, P21, P22, P23, P24}

abbrev pub number_of : Rule → ℕ
number_of P1 = 1
number_of P2 = 2
number_of P3 = 3
number_of P4 = 4
number_of P5 = 5
number_of P6 = 6
number_of P7 = 7
number_of P8 = 8
number_of P9 = 9
number_of P10 = 10
number_of P11 = 11
number_of P12 = 12
number_of P13 = 13
number_of P14 = 14
number_of P15 = 15
number_of P16 = 16
number_of P17 = 17
number_of P18 = 18
number_of P19 = 19
number_of P20 = 20
number_of P21 = 21
number_of P22 = 22
number_of P23 = 23
number_of P24 = 24

abbrev pub denial : Rule → Dbref → Denial
denial rule d = record { rule = number_of rule; object = d }
