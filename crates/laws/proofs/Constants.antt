-- Constants and wanted constants.
pub mod Apart
pub mod Wanted
