-- Elements of a list. Declares nothing.
pub use Rattle.dw_index.specs.Among.{IsAmong}
