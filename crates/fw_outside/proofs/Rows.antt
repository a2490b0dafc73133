-- The definitions, computed on small texts.
use Rattle.std.proofs.Common.{◌≡◌, [], ◌∷◌, refl}
use Rattle.std.specs.Prelude.{Some, None, codes}
use Rattle.fw_outside.specs.Lines.{first_line}

a_line : first_line (codes "one\r\ntwo\n") ≡ Some (codes "one", codes "two\n")
a_line = refl

an_empty_line : first_line (codes "\r\n") ≡ Some ([], [])
an_empty_line = refl

one_cr_is_dropped : first_line (codes "a\rb\r\r\nc") ≡ Some (codes "a\rb\r", codes "c")
one_cr_is_dropped = refl

a_rest_is_no_line : first_line (codes "no end\r") ≡ None
a_rest_is_no_line = refl

nothing_is_no_line : first_line [] ≡ None
nothing_is_no_line = refl
