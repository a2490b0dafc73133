-- What is left in a reader, or held by a writer, after one call and then another.
use Rattle.std.proofs.Common.{ℕ, List, Option, Some, None, Result, Ok, Err, refl, sym, ◌∙◌, take}
use Rattle.std.specs.Io.KnownBytes.{Consumes, Keeps, ReadConsumes}

pub keeps_here : (a : Option (List ℕ)) → Keeps a a
keeps_here None = tt
keeps_here (Some xs) = refl

pub keeps_then : (a b c : Option (List ℕ)) → Keeps a b → Keeps b c → Keeps a c
keeps_then None b c h k = tt
keeps_then (Some xs) None c h k = absurd h
keeps_then (Some xs) (Some ys) None h k = absurd k
keeps_then (Some xs) (Some ys) (Some zs) h k = k ∙ h

consumes_after : (a b c : Option (List ℕ)) (bytes : List ℕ) → Keeps a b → Consumes b c bytes → Consumes a c bytes
consumes_after None b c bytes h k = tt
consumes_after (Some xs) None c bytes h k = absurd h
consumes_after (Some xs) (Some ys) None bytes h k = absurd k
consumes_after (Some xs) (Some ys) (Some zs) bytes h k = sym h ∙ k

-- a read after calls that kept what is left
pub reads_after : {E : Type 0} (a b c : Option (List ℕ)) (result : Result ℕ E) (buf : List ℕ) → Keeps a b → ReadConsumes b c result buf → ReadConsumes a c result buf
reads_after a b c (Ok n) buf h k = (consumes_after a b c (take n buf) h k.0, k.1)
reads_after a b c (Err e) buf h k = keeps_then a b c h k
