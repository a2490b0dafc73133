-- What a user is asked (RFC 2289, 6.0, the form of inputs).
use Rattle.std.specs.Prelude.{ℕ, List, ◌++◌, codes}
use Rattle.std.specs.Fmt.{decimal}

-- the algorithm, the count and the seed
unfoldable pub challenge : ℕ → List ℕ → List ℕ
challenge number word_seed = codes "otp-md5 " ++ decimal number ++ codes " " ++ word_seed
