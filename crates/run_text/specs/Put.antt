-- A page is a buffer with a position. Assumes nothing.
use Rattle.std.specs.Prelude.{ℕ}
use Rattle.definition.specs.Bytes.{Bytes}
unfoldable pub use Rattle.law_stores.specs.Put.{put1, put}

abbrev pub Page : Type 0
Page = Bytes × ℕ
