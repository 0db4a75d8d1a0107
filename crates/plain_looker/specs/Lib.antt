pub mod Scan
pub mod ScanLaws
