-- What is known of files that were opened, and of bytes that were read.
use Rattle.std.specs.Prelude.{◌≡◌, ℕ, ◌≤◌, List, length, take, T}
use Rattle.std.specs.Int.Signed.{non_neg}
use Rattle.std.specs.Fd.{file_raw_fd}
use Rattle.std.specs.declared.fs.File.{File}

-- a file's descriptor is not negative
abbrev pub Descriptor : File → Type 0
Descriptor file = T (non_neg (file_raw_fd file))

-- so many bytes at the front of a buffer
abbrev pub IsPrefixLen : ℕ → List ℕ → Type 0
IsPrefixLen n xs = (n ≤ length xs) × (n ≡ length (take n xs))
