-- The loop of loadUnsigned, a byte at a time. Assumes nothing.
use Rattle.std.proofs.Common.{◌≡◌, ℕ, ◌+◌, ◌*◌, ◌%◌, ◌≤◌, ◌<◌, List, length, drop, get_or, Ok, Err, add-one, drop-cons, drop_of_length-le}
use borrow.Author.Tests.{lt-ltb, le-ltb, le-leb, lt-leb}
use Rattle.common.specs.declared.refusal.Refusal.TheVariants.{MalformedChunk}
use Rattle.loaders.specs.Loaders.{unsigned_from}

module _ (top x at : ℕ) (bytes : List ℕ) where
  pub past_end : length bytes ≤ at → unsigned_from top x at (drop at bytes) ≡ Err MalformedChunk
  unfolding unsigned_from
  past_end h = rw (drop_of_length-le bytes h)

  pub over : at < length bytes → top ≤ x → unsigned_from top x at (drop at bytes) ≡ Err MalformedChunk
  unfolding unsigned_from
  over inside h = rw (drop-cons bytes at 0 inside, le-ltb x top h)

  pub last : at < length bytes → x < top → 128 ≤ get_or bytes at 0
      → unsigned_from top x at (drop at bytes) ≡ Ok (x * 128 + get_or bytes at 0 % 128, at + 1)
  unfolding unsigned_from
  last inside h l = rw (drop-cons bytes at 0 inside, lt-ltb x top h, le-leb 128 (get_or bytes at 0) l)

  pub more : at < length bytes → x < top → get_or bytes at 0 < 128
      → unsigned_from top x at (drop at bytes) ≡ unsigned_from top (x * 128 + get_or bytes at 0 % 128) (at + 1) (drop (at + 1) bytes)
  unfolding unsigned_from
  more inside h l = rw (drop-cons bytes at 0 inside, lt-ltb x top h, lt-leb 128 (get_or bytes at 0) l, add-one)

pub ruleset read = (past_end, over, last, more)
