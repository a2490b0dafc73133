-- Texts and the lines that are heard of them.
use Rattle.std.proofs.Common.{◌≡◌, [], ◌∷◌, ◌++◌, Some, refl}
use Rattle.std.specs.Prelude.{codes}
use Rattle.telnet.specs.First.{first_heard}
use Rattle.telnet.specs.Items.{data_of, data_within}
use Rattle.telnet.specs.Lines.{lines_heard, lines_of}

negotiated : lines_heard (codes "c 10.9.9.9" ++ 13 ∷ 10 ∷ codes "c re" ++ 255 ∷ 251 ∷ 31 ∷ codes "lay.org 23" ++ 13 ∷ 10 ∷ []) ≡ Some (codes "c 10.9.9.9") ∷ Some (codes "c relay.org 23") ∷ []
unfolding data_of data_within lines_of
negotiated = refl

unended : lines_heard (codes "c a.org" ++ 13 ∷ []) ≡ []
unfolding data_of data_within lines_of
unended = refl

-- the pair IAC IAC doesn't end a subnegotiation with the SE behind it
subnegotiated : lines_heard (codes "a" ++ 255 ∷ 250 ∷ 24 ∷ 255 ∷ 255 ∷ 240 ∷ 10 ∷ 255 ∷ 240 ∷ codes "b" ++ 10 ∷ []) ≡ Some (codes "ab") ∷ []
unfolding data_of data_within lines_of
subnegotiated = refl

-- the NUL that ends a line behind a CR may stand behind a negotiation
return_null : lines_heard (codes "a" ++ 13 ∷ 255 ∷ 253 ∷ 1 ∷ 0 ∷ codes "b" ++ 10 ∷ []) ≡ Some (codes "a") ∷ Some (codes "b") ∷ []
unfolding data_of data_within lines_of
return_null = refl

two_returns : lines_heard (codes "a" ++ 13 ∷ 13 ∷ 10 ∷ codes "b" ++ 13 ∷ codes "c" ++ 10 ∷ []) ≡ Some (codes "a") ∷ Some (codes "bc") ∷ []
unfolding data_of data_within lines_of
two_returns = refl

unfinished : lines_heard (codes "a" ++ 10 ∷ codes "b" ++ 255 ∷ []) ≡ Some (codes "a") ∷ []
unfolding data_of data_within lines_of
unfinished = refl

-- what follows the line that is heard first is left as it came, a negotiation at its front too
first_and_raw : first_heard (codes "c " ++ 255 ∷ 251 ∷ 31 ∷ codes "a" ++ 13 ∷ 10 ∷ 255 ∷ 253 ∷ 1 ∷ codes "hello") ≡ Some record { line = Some (codes "c a"); rest = 255 ∷ 253 ∷ 1 ∷ codes "hello" }
unfolding data_of data_within lines_of
first_and_raw = refl

-- a NUL behind LF is the first byte of what follows
first_at_lf : first_heard (13 ∷ 10 ∷ 0 ∷ []) ≡ Some record { line = Some []; rest = 0 ∷ [] }
unfolding data_of data_within lines_of
first_at_lf = refl
