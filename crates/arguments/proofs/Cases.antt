-- Arguments written out: numbers, with zeros before them too, and what is none. Assumes nothing.
use mathlib.Core.Path.{◌≡◌, refl}
use mathlib.Core.List.{[]}
use Rattle.std.proofs.Common.{Some, None}
use Rattle.model.specs.Text.{text}
use Rattle.arguments.specs.Arguments.{number_in, argument_as}

reads : number_in (text "2048") ≡ Some 2048
unfolding number_in text
reads = refl

reads_zeros : number_in (text "007") ≡ Some 7
unfolding number_in text
reads_zeros = refl

no_digits : number_in [] ≡ None
unfolding number_in
no_digits = refl

no_sign : number_in (text "+5") ≡ None
unfolding number_in text
no_sign = refl

no_blank : number_in (text "5 ") ≡ None
unfolding number_in text
no_blank = refl

-- as values: the largest that is told apart, and one above it
largest : argument_as (number_in (text "65534")) ≡ Some 65534
unfolding number_in text
largest = refl

above : argument_as (number_in (text "70000")) ≡ Some 65535
unfolding number_in text
above = refl
