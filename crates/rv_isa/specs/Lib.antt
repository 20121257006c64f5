pub mod Bits
pub mod Effect
pub mod EffectLaws
pub mod Format
pub mod Inst
pub mod Mnemonic
pub mod Regs
pub mod Table
