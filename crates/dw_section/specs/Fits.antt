-- Rules that instructions can give. Declares nothing.
pub use Rattle.dw_cfa.specs.Fits.{CfaFits, HasBlock, RowFits, RuleFits}
