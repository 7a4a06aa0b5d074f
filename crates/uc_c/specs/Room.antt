-- The bytes that are written into the caller's buffer.
pub use Rattle.uc_rows.specs.Laying.{filled}
