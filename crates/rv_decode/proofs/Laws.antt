-- The laws that crates above cite.
pub use Rattle.rv_decode.proofs.Rows.{by_funct3, by_funct5, by_funct6, by_funct7, by_mask, by_opcode, by_rs2}
