-- One-time passwords with MD5 (RFC 2289, 6.0 and appendix A). A password is a number of 64 bits, its greatest byte first.
use Rattle.std.specs.Prelude.{ℕ, zero, suc, List, ◌++◌, take, drop, bit_xor}
use Rattle.std.specs.Int.{w64, from_be_bytes, to_be_bytes}
use Rattle.md5.specs.Md5.{md5}

-- a digest of 16 bytes folded to 64 bits: the exclusive or of its halves
abbrev pub halves : List ℕ → ℕ
halves digest = bit_xor (from_be_bytes w64 (take 8 digest)) (from_be_bytes w64 (drop 8 digest))

unfoldable pub folded : List ℕ → ℕ
folded bytes = halves (md5 bytes)

-- the initial step: the seed and then the pass phrase
unfoldable pub initial_of : List ℕ → List ℕ → ℕ
initial_of word_seed phrase = folded (word_seed ++ phrase)

-- the computation step
unfoldable pub next_of : ℕ → ℕ
next_of password = folded (to_be_bytes w64 password)

-- the password of a count
abbrev pub password : List ℕ → List ℕ → ℕ → ℕ
password word_seed phrase zero = initial_of word_seed phrase
password word_seed phrase (suc count) = next_of (password word_seed phrase count)

-- a step taken so many times
abbrev pub repeated : (ℕ → ℕ) → ℕ → ℕ → ℕ
repeated step zero x = x
repeated step (suc count) x = repeated step count (step x)
